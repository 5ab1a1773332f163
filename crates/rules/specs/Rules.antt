-- A rule as it is kept, and the tree that it is.
use Rattle.std.specs.Prelude.{◌≡◌, List, [], ◌∷◌}
use Rattle.rules.specs.declared.node.Leaf.TheVariants.{Actor}
use Rattle.rules.specs.declared.node.Node.{Node}
use Rattle.rules.specs.declared.node.Node.TheVariants.{Is, Not, And, Or}
use Rattle.rules.specs.declared.rule.Rule.{Rule}
use Rattle.rules.specs.NodeLists.{list_nodes}
use Rattle.rules.specs.Trees.{Tree, is, isnt, both, either, nodes, InRange}

-- The nodes of a rule.
abbrev pub rule_nodes : Rule → List Node
rule_nodes r = list_nodes r.list

-- The last two trees under an operator.
abbrev pub paired : (Tree → Tree → Tree) → List Tree → List Tree
paired f [] = []
paired f (t ∷ []) = []
paired f (t ∷ (s ∷ ts)) = f s t ∷ ts

-- The trees after one more node, the last tree first.
abbrev pub grown : Node → List Tree → List Tree
grown (Is l) ts = is l ∷ ts
grown (Not l) ts = isnt l ∷ ts
grown And ts = paired both ts
grown Or ts = paired either ts

-- The trees that nodes make of those before them, the last tree first.
abbrev pub trees : List Tree → List Node → List Tree
trees ts [] = ts
trees ts (n ∷ ns) = trees (grown n ts) ns

abbrev pub first_tree : List Tree → Tree
first_tree [] = is (Actor 0)
first_tree (t ∷ ts) = t

-- The tree that a rule is.
unfoldable pub rule_tree : Rule → Tree
rule_tree r = first_tree (trees [] (rule_nodes r))

-- Its node list is the rule's.
pub record IsTree (r : Rule) : Type 0 where
  pub list : nodes (rule_tree r) ≡ rule_nodes r
  pub range : InRange (rule_tree r)

abbrev pub RulesAreTrees : Type 0
RulesAreTrees = (r : Rule) → IsTree r
