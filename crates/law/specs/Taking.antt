-- Taking a ticket out of a purse.
use Rattle.std.specs.Prelude.{◌≡◌, ℕ, ◌<◌, length, Some, None, Option, slice_set}
use Rattle.law.specs.Purses.{Purse}

-- Purse p became q: a ticket was taken out of place i, which is empty now; or none was, and nothing changed.
abbrev pub Leaves : {K : Type 0} → Option K → Purse → ℕ → Purse → Type 0
Leaves None p i q = q ≡ p
Leaves (Some k) p i q = (i < length p) × (q ≡ slice_set p i None)
