use Rattle.std.proofs.Common.{◌≡◌, ℕ, ◌<◌, true, Decides}
use Rattle.bits.specs.Bit.{bit}
use Rattle.board.specs.Holding.{facts_of}
use Rattle.drafts.specs.Pairs.{pair_number}
use Rattle.drafts.proofs.draft.Draft.is_lower_end.Given as goal

-- the numbers that are lower ends in the rows so far
abbrev pub invariant-loop-y : goal.invariant-loop-y
invariant-loop-y l = (x : ℕ) → Decides (bit l.lower.word x) ((y : ℕ) × (y < l.y) × (facts_of l.self.board (pair_number l.sort) x y ≡ true))
