use Rattle.std.proofs.Common.{◌≡◌, ◌≤◌, drop}
use Rattle.rules.specs.Scan.{bad_shape}
use Rattle.rules.proofs.reading.one_tree.Given as goal

abbrev pub invariant-loop-i : goal.invariant-loop-i
invariant-loop-i l = (bad_shape 0 0 l.nodes ≡ bad_shape l.i l.trees (drop l.i l.nodes)) × (l.trees ≤ l.i)
