-- A rule as a tree, and its node list.
use Rattle.std.specs.Prelude.{◌≡◌, ℕ, Bool, true, false, List, [], ◌∷◌, ◌++◌, nat_lt}
use Rattle.rules.specs.declared.node.Leaf.{Leaf}
use Rattle.rules.specs.declared.node.Leaf.TheVariants.{Actor, Group}
use Rattle.rules.specs.declared.node.Node.{Node}
use Rattle.rules.specs.declared.node.Node.TheVariants.{Is, Not, And, Or}

-- A rule: a leaf, a leaf under NOT, or two rules under AND or OR.
pub data Tree : Type 0 where
  is : Leaf → Tree
  isnt : Leaf → Tree
  both : Tree → Tree → Tree
  either : Tree → Tree → Tree

-- The node list of a rule: every operator follows its two parts, left then right.
abbrev pub nodes : Tree → List Node
nodes (is l) = Is l ∷ []
nodes (isnt l) = Not l ∷ []
nodes (both s t) = nodes s ++ (nodes t ++ (And ∷ []))
nodes (either s t) = nodes s ++ (nodes t ++ (Or ∷ []))

-- The node is AND or OR.
abbrev pub operator : Node → Bool
operator (Is l) = false
operator (Not l) = false
operator And = true
operator Or = true

-- The number of the entity that a leaf names.
abbrev pub number_of : Leaf → ℕ
number_of (Actor a) = a
number_of (Group k n plus) = n

-- The entity that a leaf names can be.
abbrev pub in_range : Leaf → Bool
in_range l = nat_lt (number_of l) 64

-- Every entity that a rule names can be.
abbrev pub InRange : Tree → Type 0
InRange (is l) = in_range l ≡ true
InRange (isnt l) = in_range l ≡ true
InRange (both s t) = InRange s × InRange t
InRange (either s t) = InRange s × InRange t

-- A node list is the list of one rule at most.
abbrev pub OneTree : Type 0
OneTree = (t u : Tree) → nodes t ≡ nodes u → t ≡ u
