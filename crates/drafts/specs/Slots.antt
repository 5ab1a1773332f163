-- What a book says: the tree of the rule in each slot.
use Rattle.std.specs.Prelude.{ℕ, cond, List, [], map, Some, None, Option, ◌==◌}
use Rattle.rules.specs.Books.{slot_rule}
use Rattle.rules.specs.Bytes.{node_of}
use Rattle.rules.specs.Rules.{rule_tree, first_tree, trees}
use Rattle.rules.specs.Trees.{Tree}
use Rattle.rules.specs.declared.book.Book.{Book}
use Rattle.rules.specs.declared.bytes.NodeBytes.{NodeBytes}
use Rattle.rules.specs.declared.rule.Rule.{Rule}

-- For each slot its rule's tree, or none.
abbrev pub Slots : Type 0
Slots = ℕ → Option Tree

abbrev pub tree_in : Option Rule → Option Tree
tree_in None = None
tree_in (Some r) = Some (rule_tree r)

-- The slots of a book.
abbrev pub slots_of : Book → Slots
slots_of b i = tree_in (slot_rule b i)

-- The slots with one of them written.
abbrev pub written : Slots → ℕ → Option Tree → Slots
written B slot t i = cond (i == slot) t (B i)

-- The tree that a node list is.
abbrev pub tree_of : List NodeBytes → Tree
tree_of list = first_tree (trees [] (map node_of list))

abbrev pub edited : (Tree → Tree) → Option Tree → Option Tree
edited g None = None
edited g (Some t) = Some (g t)

-- The slots with every rule edited: slots 0 to 31, for no other has a rule.
abbrev pub each_edited : (Tree → Tree) → Slots → Slots
each_edited g B i = edited g (B i)
