-- Joining and splitting keep a model sound: the ends of every pair stand, and no hierarchy runs in a circle.
use Rattle.std.specs.Prelude.{ℕ}
use Rattle.model.specs.Facts.{Facts}
use Rattle.model.specs.Chains.{Circle}
use Rattle.model.specs.declared.side.Side.{Side}
use Rattle.answers.specs.Qualify.{EndsStand}
use Rattle.drafts.specs.Joining.{joined}
use Rattle.drafts.specs.Splitting.{Parts, parted}
use Rattle.effects.specs.Fits.{JoinFits, SplitFits}

-- Neither hierarchy runs in a circle.
abbrev pub NoCircle : Facts → Type 0
NoCircle F = (k : Side) → Circle F k → ⊥

-- After a join the ends of every pair stand.
abbrev pub JoinKeepsEnds : Type 0
JoinKeepsEnds = (F : Facts) (k : Side) (e f n : ℕ) → EndsStand F → EndsStand (joined k e f n F)

-- After a join that fits neither hierarchy runs in a circle.
abbrev pub JoinMakesNoCircle : Type 0
JoinMakesNoCircle = (F : Facts) (k : Side) (e f n : ℕ) → NoCircle F → JoinFits F k e f n → NoCircle (joined k e f n F)

-- After a split that fits the ends of every pair stand.
abbrev pub SplitKeepsEnds : Type 0
SplitKeepsEnds = (F : Facts) (k : Side) (D : Parts) → EndsStand F → (Circle F k → ⊥) → SplitFits F k D → EndsStand (parted k D F)

-- A split that fits brings no circle.
abbrev pub SplitMakesNoCircle : Type 0
SplitMakesNoCircle = (F : Facts) (k : Side) (D : Parts) → EndsStand F → NoCircle F → SplitFits F k D → NoCircle (parted k D F)
