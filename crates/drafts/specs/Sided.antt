-- The facts of one side, roles or units, and a model with those facts replaced.
use Rattle.std.specs.Prelude.{ℕ, Bool, cond, ◌&&◌, ◌==◌}
use Rattle.model.specs.Facts.{Facts}
use Rattle.model.specs.Sides.{stands_sort, has_sort, under_sort, stands, has, under}
use Rattle.model.specs.declared.side.Side.{Side}

-- What stands; which actor has, or belongs to, what; and what is directly below what.
pub record Sided : Type 0 where
  pub stands : ℕ → Bool
  pub has : ℕ → ℕ → Bool
  pub under : ℕ → ℕ → Bool

-- The facts of a side.
abbrev pub sided : Facts → Side → Sided
sided F k = record { stands = stands F k; has = has F k; under = under F k }

-- The model with the facts of one side replaced.
abbrev pub with_side : Facts → Side → Sided → Facts
with_side F k S s x y =
    cond (s == stands_sort k) (y == 0 && S.stands x)
    (cond (s == has_sort k) (S.has x y) (cond (s == under_sort k) (S.under x y) (F s x y)))

-- The model with the facts of one side changed so.
abbrev pub side_changed : Side → (Sided → Sided) → Facts → Facts
side_changed k change F = with_side F k (change (sided F k))
