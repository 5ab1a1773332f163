-- A list names possible facts only.
use Rattle.std.specs.Prelude.{ℕ, List}
use Rattle.std.proofs.lemmas.Bool.{and_parts}
use Rattle.model.specs.Facts.{OnlyPossible, possible, fact_word}
use Rattle.list.specs.Words.{among, listed}

pub only_possible : (ws : List ℕ) (n : ℕ) → OnlyPossible (listed ws n)
unfolding listed
only_possible ws n s x y h = (and_parts (possible s x y) (among ws (fact_word s x y) n) h).0
