-- What joining two roles or units into one, and splitting one into two, makes of a rule and of its node list.
use Rattle.std.specs.Prelude.{◌≡◌, ℕ, Bool, true, false, cond, ◌&&◌, ◌||◌, List, [], ◌∷◌, ◌++◌, map, ◌==◌}
use Rattle.model.specs.declared.side.Side.{Side}
use Rattle.model.specs.declared.side.Side.TheVariants.{Role, Unit}
use Rattle.rules.specs.declared.node.Leaf.{Leaf}
use Rattle.rules.specs.declared.node.Leaf.TheVariants.{Actor, Group}
use Rattle.rules.specs.declared.node.Node.{Node}
use Rattle.rules.specs.declared.node.Node.TheVariants.{Is, Not, And, Or}
use Rattle.rules.specs.Trees.{Tree, is, isnt, both, either, nodes}

-- Both are roles, or both are units.
abbrev pub same_side : Side → Side → Bool
same_side Role Role = true
same_side Role Unit = false
same_side Unit Role = false
same_side Unit Unit = true

-- ── e and f of side k are joined into n ──

-- x is one of the two that are joined.
abbrev pub joins : ℕ → ℕ → ℕ → Bool
joins e f x = x == e || x == f

-- The number that stands for x after the join.
abbrev pub renamed : ℕ → ℕ → ℕ → ℕ → ℕ
renamed e f n x = cond (joins e f x) n x

-- A leaf after the join: only a number of side k changes.
abbrev pub joined_leaf : (k : Side) (e f n : ℕ) → Leaf → Leaf
joined_leaf k e f n (Actor a) = Actor a
joined_leaf k e f n (Group j r plus) = Group j (cond (same_side j k) (renamed e f n r) r) plus

-- A rule after the join: every leaf is renamed.
abbrev pub joined_rule : (k : Side) (e f n : ℕ) → Tree → Tree
joined_rule k e f n (is l) = is (joined_leaf k e f n l)
joined_rule k e f n (isnt l) = isnt (joined_leaf k e f n l)
joined_rule k e f n (both s t) = both (joined_rule k e f n s) (joined_rule k e f n t)
joined_rule k e f n (either s t) = either (joined_rule k e f n s) (joined_rule k e f n t)

-- A node after the join.
abbrev pub joined_node : (k : Side) (e f n : ℕ) → Node → Node
joined_node k e f n (Is l) = Is (joined_leaf k e f n l)
joined_node k e f n (Not l) = Not (joined_leaf k e f n l)
joined_node k e f n And = And
joined_node k e f n Or = Or

-- A joined rule's nodes are the rule's, each one joined.
abbrev pub JoinsNodes : Type 0
JoinsNodes = (k : Side) (e f n : ℕ) (t : Tree) → nodes (joined_rule k e f n t) ≡ map (joined_node k e f n) (nodes t)

-- ── e of side k is split into n1 and n2 ──

-- The leaf names e of side k.
abbrev pub names : Side → ℕ → Leaf → Bool
names k e (Actor a) = false
names k e (Group j r plus) = same_side j k && r == e

-- The leaf with another role's or unit's number.
abbrev pub numbered : Leaf → ℕ → Leaf
numbered (Actor a) n = Actor a
numbered (Group j r plus) n = Group j n plus

-- A rule after the split: what names e names either part, and under NOT neither part.
abbrev pub split_rule : (k : Side) (e n1 n2 : ℕ) → Tree → Tree
split_rule k e n1 n2 (is l) = cond (names k e l) (either (is (numbered l n1)) (is (numbered l n2))) (is l)
split_rule k e n1 n2 (isnt l) = cond (names k e l) (both (isnt (numbered l n1)) (isnt (numbered l n2))) (isnt l)
split_rule k e n1 n2 (both s t) = both (split_rule k e n1 n2 s) (split_rule k e n1 n2 t)
split_rule k e n1 n2 (either s t) = either (split_rule k e n1 n2 s) (split_rule k e n1 n2 t)

-- The nodes that stand for a node after the split.
abbrev pub split_node : (k : Side) (e n1 n2 : ℕ) → Node → List Node
split_node k e n1 n2 (Is l) = cond (names k e l) (Is (numbered l n1) ∷ (Is (numbered l n2) ∷ (Or ∷ []))) (Is l ∷ [])
split_node k e n1 n2 (Not l) = cond (names k e l) (Not (numbered l n1) ∷ (Not (numbered l n2) ∷ (And ∷ []))) (Not l ∷ [])
split_node k e n1 n2 And = And ∷ []
split_node k e n1 n2 Or = Or ∷ []

-- The nodes after the split, each one's in its place.
abbrev pub split_nodes : (k : Side) (e n1 n2 : ℕ) → List Node → List Node
split_nodes k e n1 n2 [] = []
split_nodes k e n1 n2 (v ∷ vs) = split_node k e n1 n2 v ++ split_nodes k e n1 n2 vs

-- A split rule's nodes are the rule's, each one split.
abbrev pub SplitsNodes : Type 0
SplitsNodes = (k : Side) (e n1 n2 : ℕ) (t : Tree) → nodes (split_rule k e n1 n2 t) ≡ split_nodes k e n1 n2 (nodes t)
