use Rattle.std.proofs.Common.{◌≡◌, map, drop, take}
use Rattle.rules.specs.Bytes.{node_of}
use Rattle.rules.specs.NodeLists.{list_nodes}
use Rattle.rules.specs.Scan.{bad_field}
use Rattle.rules.proofs.reading.decoded.Given as goal

-- the nodes so far, and what is still to be read tells the fault
abbrev pub invariant-loop-i : goal.invariant-loop-i
invariant-loop-i l =
    (bad_field 0 l.list ≡ bad_field l.i-counter (drop l.i-counter l.list)) × (list_nodes l.nodes ≡ map node_of (take l.i-counter l.list))
