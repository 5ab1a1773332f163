-- What a refused step leaves of a draft.
use Rattle.std.specs.Prelude.{◌≡◌, Ok, Err, Result}
use Rattle.drafts.specs.declared.draft.Draft.{Draft}
use Rattle.drafts.specs.declared.refusal.Refusal.{Refusal}

-- Where the answer is a refusal, draft d is left as it is, board and book.
abbrev pub Unmoved : Result (Unit {0}) Refusal → Draft → Draft → Type 0
Unmoved (Ok u) d e = Unit {0}
Unmoved (Err w) d e = e ≡ d
