use Rattle.std.proofs.Common.{◌≡◌, ℕ, ◌<◌, true}
use Rattle.board.specs.Holding.{facts_of}
use Rattle.model.specs.Facts.{possible}
use Rattle.transfer.proofs.load.load.Given as goal

-- the possible facts of the sorts and rows so far are as in the reading
abbrev pub invariant-loop-sort : goal.invariant-loop-sort
invariant-loop-sort g l = (s x y : ℕ) → possible s x y ≡ true → s < l.sort → facts_of l.board s x y ≡ g.R.Reading.held l.from s x y

abbrev pub invariant-loop-y : goal.invariant-loop-y
invariant-loop-y g l = record {
  earlier : (s x y : ℕ) → possible s x y ≡ true → s < l.sort → facts_of l.board s x y ≡ g.R.Reading.held l.from s x y;
  here : (x y : ℕ) → possible l.sort x y ≡ true → y < l.y → facts_of l.board l.sort x y ≡ g.R.Reading.held l.from l.sort x y;
}
