-- How many facts a set holds, and which puts a store takes.
use Rattle.std.specs.Prelude.{ℕ, Bool, ◌&&◌, ◌||◌, nat_lt}
use Rattle.bits.specs.Total.{total, tally}
use Rattle.model.specs.Facts.{Facts, possible}

-- How many possible facts of sort s and upper number y the set holds.
abbrev pub row_size : Facts → ℕ → ℕ → ℕ
row_size S s y = tally (λ x. possible s x y && S s x y) 64

-- How many possible facts of sort s the set holds.
abbrev pub sort_size : Facts → ℕ → ℕ
sort_size S s = total (row_size S s) 64

-- How many possible facts the set holds.
unfoldable pub size : Facts → ℕ
size S = total (sort_size S) 7

-- A store of that capacity takes the put: the fact is possible, and it is there already or there is room for it.
abbrev pub takes : Facts → ℕ → ℕ → ℕ → ℕ → Bool
takes S capacity s x y = possible s x y && (S s x y || nat_lt (size S) capacity)
