use Rattle.std.proofs.Common.{◌≡◌, ◌++◌, drop}
use Rattle.rules.specs.NodeLists.{list_nodes}
use Rattle.rules.specs.Changes.{nodes_split}
use Rattle.rules.proofs.node_list.NodeList.split.Given as goal

-- the nodes so far, and what the others will give, are the whole
abbrev pub invariant-loop-node : goal.invariant-loop-node
invariant-loop-node l = list_nodes l.list ++ nodes_split l.splitting (drop l.node-index l.node-items) ≡ nodes_split l.splitting l.node-items
