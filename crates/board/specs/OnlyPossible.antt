-- Rows mark possible facts only.
use Rattle.std.specs.Prelude.{ℕ, List, slice_index}
use Rattle.std.proofs.lemmas.Bool.{and_parts}
use Rattle.bits.specs.Bit.{bit}
use Rattle.model.specs.Facts.{OnlyPossible, possible}
use Rattle.board.specs.Rows.{marked, row_place}

pub only_possible : (rows : List ℕ) → OnlyPossible (marked rows)
unfolding marked
only_possible rows s x y h = (and_parts (possible s x y) (bit (slice_index rows (row_place s y)) x) h).0
