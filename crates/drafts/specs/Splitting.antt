-- Splitting a role, or a unit, e, into n1 and n2.
use Rattle.std.specs.Prelude.{ℕ, Bool, not, ◌&&◌, ◌||◌, ◌==◌}
use Rattle.model.specs.Facts.{Facts}
use Rattle.model.specs.declared.side.Side.{Side}
use Rattle.drafts.specs.Sided.{Sided, sided, with_side}

-- A split of e into n1 and n2: the two shares of e's actors, and the two of what is directly below e.
pub record Parts : Type 0 where
  pub whole : ℕ
  pub part1 : ℕ
  pub part2 : ℕ
  pub actors1 : ℕ → Bool
  pub actors2 : ℕ → Bool
  pub below1 : ℕ → Bool
  pub below2 : ℕ → Bool

-- The whole and its pairs are gone, and the two parts stand. Members of share i go to part i. Both parts are directly below all that the whole was
-- directly below.
unfoldable pub parted_side : Parts → Sided → Sided
parted_side D S =
    record {
      stands = λ x. (x == D.part1 || x == D.part2) || (not (x == D.whole) && S.stands x);
      has = λ a y.
          ((y == D.part1 && D.actors1 a) || (y == D.part2 && D.actors2 a)) || (not (y == D.whole) && S.has a y);
      under = λ x y.
          ((((x == D.part1 || x == D.part2) && S.under D.whole y) || (y == D.part1 && D.below1 x)) || (y == D.part2 && D.below2 x))
          || (not (x == D.whole) && (not (y == D.whole) && S.under x y));
    }

-- The model after the split.
abbrev pub parted : Side → Parts → Facts → Facts
parted k D F = with_side F k (parted_side D (sided F k))
