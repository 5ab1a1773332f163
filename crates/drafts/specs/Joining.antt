-- Joining two roles, or two units, e and f, into n.
use Rattle.std.specs.Prelude.{ℕ, not, ◌&&◌, ◌||◌, ◌==◌}
use Rattle.model.specs.Facts.{Facts}
use Rattle.model.specs.declared.side.Side.{Side}
use Rattle.rules.specs.Edits.{joins}
use Rattle.drafts.specs.Sided.{Sided, sided, with_side}

-- e and f stand no more and n stands. In every pair e and f are replaced by n, and a pair (n, n) of the hierarchy is dropped.
unfoldable pub joined_side : ℕ → ℕ → ℕ → Sided → Sided
joined_side e f n S =
    record {
      stands = λ x. (x == n) || (not (joins e f x) && S.stands x);
      has = λ a y. (y == n && (S.has a e || S.has a f)) || (not (joins e f y) && S.has a y);
      under = λ x y.
          not (x == y)
          && ((x == n && (not (joins e f y) && (S.under e y || S.under f y)))
          || (y == n && (not (joins e f x) && (S.under x e || S.under x f)))
          || (not (joins e f x) && (not (joins e f y) && S.under x y)));
    }

-- The model after the join.
abbrev pub joined : Side → ℕ → ℕ → ℕ → Facts → Facts
joined k e f n F = with_side F k (joined_side e f n (sided F k))
