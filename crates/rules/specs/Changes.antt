-- What a join, or a split, that is given with its numbers makes of nodes and of rules.
use Rattle.std.specs.Prelude.{◌≡◌, ◌<◌, ◌≤◌, ◌⊎◌, List, length, Option, MatchOption}
use Rattle.rules.specs.declared.node.Leaf.{Leaf}
use Rattle.rules.specs.declared.node.Node.{Node}
use Rattle.rules.specs.declared.node_list.NodeList.{NodeList}
use Rattle.rules.specs.declared.rule.Rule.{Rule}
use Rattle.rules.specs.declared.change.Joining.{Joining}
use Rattle.rules.specs.declared.change.Splitting.{Splitting}
use Rattle.rules.specs.Edits.{joined_leaf, joined_node, joined_rule, split_node, split_nodes, split_rule}
use Rattle.rules.specs.NodeLists.{list_nodes}
use Rattle.rules.specs.Rules.{rule_tree}
use Rattle.rules.specs.Trees.{Tree, nodes}

abbrev pub leaf_joined : Joining → Leaf → Leaf
leaf_joined j = joined_leaf j.side j.first j.second j.into

abbrev pub node_joined : Joining → Node → Node
node_joined j = joined_node j.side j.first j.second j.into

abbrev pub tree_joined : Joining → Tree → Tree
tree_joined j = joined_rule j.side j.first j.second j.into

abbrev pub node_split : Splitting → Node → List Node
node_split s = split_node s.side s.whole s.part1 s.part2

abbrev pub nodes_split : Splitting → List Node → List Node
nodes_split s = split_nodes s.side s.whole s.part1 s.part2

abbrev pub tree_split : Splitting → Tree → Tree
tree_split s = split_rule s.side s.whole s.part1 s.part2

-- The rule of the tree after the join, where the new number can be.
abbrev pub Joins : Joining → Tree → Option Rule → Type 0
Joins j t r = MatchOption r (64 ≤ j.into) (λ v. (j.into < 64) × (rule_tree v ≡ tree_joined j t))

-- The list of the nodes after the split, where they are at most 31.
abbrev pub NodesSplit : Splitting → List Node → Option NodeList → Type 0
NodesSplit s ns r = MatchOption r (31 < length (nodes_split s ns)) (λ l. list_nodes l ≡ nodes_split s ns)

-- A part's number cannot be, or the tree after the split has more than 31 nodes.
abbrev pub NoSplit : Splitting → Tree → Type 0
NoSplit s t = (64 ≤ s.part1) ⊎ ((64 ≤ s.part2) ⊎ (31 < length (nodes (tree_split s t))))

-- The rule of the tree after the split, where there is one.
abbrev pub Splits : Splitting → Tree → Option Rule → Type 0
Splits s t r =
    MatchOption r (NoSplit s t) (λ v. (s.part1 < 64) × (s.part2 < 64) × (length (nodes (tree_split s t)) ≤ 31) × (rule_tree v ≡ tree_split s t))
