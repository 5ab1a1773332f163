use Rattle.std.proofs.Common.{◌≡◌, ℕ, ◌&&◌, ltb}
use Rattle.bits.specs.Bit.{bit}
use Rattle.model.proofs.reading.Reading.row.Given as goal

abbrev pub invariant-loop-x : goal.invariant-loop-x
invariant-loop-x g l = (k : ℕ) → bit l.row.word k ≡ (ltb k l.x && g.Self.Reading.held l.self l.sort k l.y)
