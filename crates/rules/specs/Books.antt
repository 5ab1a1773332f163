-- What a book holds.
use Rattle.std.specs.Prelude.{ℕ, cond, ◌&&◌, Some, None, Option, ◌==◌, nat_lt, slice_index_or}
use Rattle.rules.specs.declared.rule.Rule.{Rule}
use Rattle.rules.specs.declared.book.Book.{Book}

-- The rule in slot i, if there is one. A book has slots 0 to 31.
abbrev pub slot_rule : Book → ℕ → Option Rule
slot_rule b i = cond (nat_lt i 32) (slice_index_or b.slots i None) None

-- The slots after a rule is put into one of them.
abbrev pub filled : (ℕ → Option Rule) → ℕ → Rule → ℕ → Option Rule
filled slots slot r i = cond (i == slot && nat_lt slot 32) (Some r) (slots i)

-- The slots after one of them is emptied.
abbrev pub emptied : (ℕ → Option Rule) → ℕ → ℕ → Option Rule
emptied slots slot i = cond (i == slot) None (slots i)
