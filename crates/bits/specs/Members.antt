-- The numbers in a set, in order.
use Rattle.std.specs.Prelude.{ℕ, List, filter}
use Rattle.std.specs.List.{range_with_len}
use Rattle.bits.specs.Bit.{bit}

-- The numbers in the set that the word w is, ascending.
unfoldable pub members : ℕ → List ℕ
members w = filter (bit w) (range_with_len 0 64)
