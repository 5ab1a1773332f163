-- When two roles or two units may be joined, and when one may be split.
use Rattle.std.specs.Prelude.{◌≡◌, ℕ, true, false, ◌||◌, ◌≢◌}
use Rattle.model.specs.Facts.{Facts}
use Rattle.model.specs.Sides.{stands, has, under}
use Rattle.model.specs.Chains.{Circle}
use Rattle.model.specs.declared.side.Side.{Side}
use Rattle.drafts.specs.Joining.{joined}
use Rattle.drafts.specs.Splitting.{Parts}

-- The roles or units e and f may be joined into n: both stand, n does not, and the joined hierarchy has no circle.
pub record JoinFits (F : Facts) (k : Side) (e f n : ℕ) : Type 0 where
  pub first : stands F k e ≡ true
  pub second : stands F k f ≡ true
  pub fresh : stands F k n ≡ false
  pub apart : e ≢ f
  pub circle : Circle (joined k e f n F) k → ⊥

-- A role or unit may be split: it stands, its parts are two that do not, and the shares are together just its actors and what is directly below it.
pub record SplitFits (F : Facts) (k : Side) (D : Parts) : Type 0 where
  pub whole : stands F k D.whole ≡ true
  pub fresh1 : stands F k D.part1 ≡ false
  pub fresh2 : stands F k D.part2 ≡ false
  pub apart : D.part1 ≢ D.part2
  pub actors : (a : ℕ) → (D.actors1 a || D.actors2 a) ≡ has F k a D.whole
  pub below : (x : ℕ) → (D.below1 x || D.below2 x) ≡ under F k x D.whole
