use Rattle.bits.specs.Bit.{bit}
use Rattle.answers.proofs.Reached.{Gathered}
use Rattle.answers.proofs.everyone.Everyone.members.Given as goal

abbrev pub invariant-loop-below : goal.invariant-loop-below
invariant-loop-below g l = Gathered (g.R.Reading.held l.self.reading.now) l.side l.number (bit l.found.word) l.yielded
