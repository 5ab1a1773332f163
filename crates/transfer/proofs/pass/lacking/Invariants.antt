use Rattle.std.proofs.Common.{◌≡◌, ℕ, ◌<◌, true, false}
use Rattle.bits.specs.Bit.{bit}
use Rattle.transfer.specs.Lacks.{Lacks}
use Rattle.transfer.proofs.pass.lacking.Given as goal

-- what is found in the rows so far: it misses nothing, and has nothing else
abbrev pub invariant-loop-y : goal.invariant-loop-y
invariant-loop-y g l = record {
  all : (x y : ℕ) → y < l.y → bit l.found.word x ≡ false → g.A.Reading.held l.held l.sort x y ≡ true → g.B.Reading.held l.by l.sort x y ≡ true;
  only : (x : ℕ) → bit l.found.word x ≡ true → Lacks (g.A.Reading.held l.held) (g.B.Reading.held l.by) l.sort x;
}
