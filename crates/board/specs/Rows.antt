-- What the rows of a bit board say.
use Rattle.std.specs.Prelude.{ℕ, ◌+◌, ◌-◌, ◌*◌, cond, ◌&&◌, List, nat_lt, slice_index}
use Rattle.bits.specs.Bit.{bit}
use Rattle.model.specs.Facts.{Facts, possible}

-- Where the row of sort s and upper number y lies: one row for each of the sorts 0 to 2, then 64 for each of the sorts 3 to 6.
abbrev pub row_place : ℕ → ℕ → ℕ
row_place s y = cond (nat_lt s 3) s (3 + (s - 3) * 64 + y)

-- The facts that the rows hold: number x is in the row of s and y.
unfoldable pub marked : List ℕ → Facts
marked rows s x y = possible s x y && bit (slice_index rows (row_place s y)) x
