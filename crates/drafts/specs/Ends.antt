-- The ends of pairs of one sort.
use Rattle.std.specs.Prelude.{◌≡◌, ℕ, true, ◌⊎◌}
use Rattle.model.specs.Facts.{Facts}
use Rattle.drafts.specs.Grounds.{lower_kind, upper_kind}

-- The entity is in a pair of sort s, at either end.
abbrev pub EndIn : Facts → (s kind n : ℕ) → Type 0
EndIn F s kind n = (x : ℕ) × (y : ℕ) × (F s x y ≡ true) × (((lower_kind s ≡ kind) × (x ≡ n)) ⊎ ((upper_kind s ≡ kind) × (y ≡ n)))
