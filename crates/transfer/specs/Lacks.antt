-- What one set of facts lacks of another.
use Rattle.std.specs.Prelude.{◌≡◌, ℕ, true, false}
use Rattle.model.specs.Facts.{Facts}

-- H has a fact of sort s and lower number x that B lacks.
abbrev pub Lacks : Facts → Facts → ℕ → ℕ → Type 0
Lacks H B s x = (y : ℕ) × (H s x y ≡ true) × (B s x y ≡ false)
