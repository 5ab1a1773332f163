-- The slots of a book that hold a rule.
use Rattle.std.specs.Prelude.{ℕ, zero, suc, ◌+◌, List, [], ◌∷◌, Option, Some, None}
use Rattle.std.specs.Borrow.{Bor}
use Rattle.rules.specs.declared.rule.Rule.{Rule}
use Rattle.rules.specs.declared.book.Book.{Book}
use Rattle.rules.specs.declared.filled.Filled.{Filled}
use Rattle.rules.specs.Books.{slot_rule}

-- The slot with its rule, where it holds one, before the others.
abbrev pub slot_first : ℕ → Option Rule → List (ℕ × Rule) → List (ℕ × Rule)
slot_first i None others = others
slot_first i (Some r) others = (i, r) ∷ others

-- Of the n slots from i on, those that hold a rule, ascending, each with its rule.
unfoldable pub held_from : (ℕ → Option Rule) → ℕ → ℕ → List (ℕ × Rule)
held_from slots i zero = []
held_from slots i (suc n) = slot_first i (slots i) (held_from slots (i + 1) n)

-- Those of the book.
abbrev pub filled_slots : Book → List (ℕ × Rule)
filled_slots b = held_from (slot_rule b) 0 32

-- Those of a list of slots from i on.
abbrev pub filled_from : ℕ → List (Option Rule) → List (ℕ × Rule)
filled_from i [] = []
filled_from i (held ∷ rest) = slot_first i held (filled_from (i + 1) rest)

-- Those that are still to come.
abbrev pub filled_left : Filled → List (ℕ × Rule)
filled_left f = filled_from f.slot f.rest.now

-- A slot and its rule, of what the iterator gives.
abbrev pub slot_and_rule : ℕ × Bor Rule → ℕ × Rule
slot_and_rule p = (p.0, p.1.now)
