use Rattle.std.proofs.Common.{◌≡◌, ℕ}
use Rattle.bits.specs.Bit.{bit}
use Rattle.list.specs.Words.{listed}
use Rattle.list.proofs.store.FactListReading.row.Given as goal

abbrev pub invariant-loop-w : goal.invariant-loop-w
invariant-loop-w l = (x : ℕ) → bit l.row.word x ≡ listed l.self.words.now l.w-index l.sort x l.y
