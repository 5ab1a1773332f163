use Rattle.std.proofs.Common.{◌≡◌, ℕ}
use Rattle.board.specs.Holding.{facts_of}
use Rattle.drafts.proofs.Replaced.{so_far}
use Rattle.drafts.proofs.replace.replace_side.Given as goal

abbrev pub invariant-loop-y : goal.invariant-loop-y
invariant-loop-y g l = (s x v : ℕ) → facts_of l.board s x v ≡ so_far l.side (g.R.Reading.held l.from) (facts_of l.initial.board) l.y s x v
