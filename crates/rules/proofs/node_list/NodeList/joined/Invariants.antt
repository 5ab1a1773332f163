use Rattle.std.proofs.Common.{◌≡◌, ◌++◌, map, take, drop}
use Rattle.rules.specs.Changes.{node_joined}
use Rattle.rules.proofs.node_list.NodeList.joined.Given as goal

abbrev pub invariant-loop-node : goal.invariant-loop-node
invariant-loop-node l =
    l.node-items ≡ map (node_joined l.joining) (take l.node-index l.initial.node-items) ++ drop l.node-index l.initial.node-items
