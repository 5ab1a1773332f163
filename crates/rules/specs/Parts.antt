-- Node lists that are a tree's, or end in a tree's.
use Rattle.std.specs.Prelude.{◌≡◌, ℕ, List, ◌++◌, length}
use Rattle.rules.specs.declared.node.Node.{Node}
use Rattle.rules.specs.declared.node.Node.TheVariants.{Is, Not, And, Or}
use Rattle.rules.specs.Trees.{Tree, is, isnt, both, either, nodes}

-- The last node of a tree.
abbrev pub top : Tree → Node
top (is l) = Is l
top (isnt l) = Not l
top (both s t) = And
top (either s t) = Or

-- The tree whose nodes these are, if they are a tree's, has the property.
abbrev pub OfTree : List Node → (Tree → Type 0) → Type 0
OfTree ns P = (t : Tree) → nodes t ≡ ns → P t

-- The last tree of the nodes, if they end in a tree's, begins at this place.
abbrev pub Begins : List Node → ℕ → Type 0
Begins ns at = (front : List Node) (t : Tree) → front ++ nodes t ≡ ns → at ≡ length front
