-- What joining and splitting leave as it was.
use Rattle.std.specs.Prelude.{◌≡◌, ℕ, ◌≢◌}
use Rattle.model.specs.Facts.{Facts}
use Rattle.model.specs.Sides.{stands_sort, has_sort, under_sort, actor_stands, stands, has, under}
use Rattle.model.specs.declared.side.Side.{Side}
use Rattle.drafts.specs.Joining.{joined}
use Rattle.drafts.specs.Splitting.{Parts, parted}

-- From F to G only facts of side k differ: the same actors stand, and all facts of the other side, and of every other sort, are as they were.
pub record OnlySide (k : Side) (F G : Facts) : Type 0 where
  pub actors : (a : ℕ) → actor_stands G a ≡ actor_stands F a
  pub groups : (j : Side) → j ≢ k → (x : ℕ) → stands G j x ≡ stands F j x
  pub members : (j : Side) → j ≢ k → (a y : ℕ) → has G j a y ≡ has F j a y
  pub hierarchy : (j : Side) → j ≢ k → (x y : ℕ) → under G j x y ≡ under F j x y
  pub sorts : (s x y : ℕ) → s ≢ stands_sort k → s ≢ has_sort k → s ≢ under_sort k → G s x y ≡ F s x y

-- A join changes only its own side.
abbrev pub JoinLeaves : Type 0
JoinLeaves = (F : Facts) (k : Side) (e f n : ℕ) → OnlySide k F (joined k e f n F)

-- A split changes only its own side.
abbrev pub SplitLeaves : Type 0
SplitLeaves = (F : Facts) (k : Side) (D : Parts) → OnlySide k F (parted k D F)
