-- A list of nodes as it is kept.
use Rattle.std.specs.Prelude.{◌≡◌, ◌<◌, List, ◌++◌, length, take, Option, MatchOption}
use Rattle.rules.specs.declared.node.Node.{Node}
use Rattle.rules.specs.declared.node_list.NodeList.{NodeList}

-- The nodes of a list.
abbrev pub list_nodes : NodeList → List Node
list_nodes l = take l.len l.nodes

-- The nodes are put at the end, or they are more than there is room for and the list is as it was.
abbrev pub Appended : NodeList → List Node → Option (Unit {0}) → NodeList → Type 0
Appended old more r new = MatchOption r ((31 < length (list_nodes old ++ more)) × (new ≡ old)) (λ _. list_nodes new ≡ list_nodes old ++ more)
