-- Chains of pairs.
use Rattle.std.specs.Prelude.{◌≡◌, ℕ, Bool, true}
use Rattle.model.specs.Facts.{Facts}
use Rattle.model.specs.Sides.{under}
use Rattle.model.specs.declared.side.Side.{Side}

-- A chain leads from x up to y: by one pair, or by a pair up to some m and a chain from there.
pub data Chain (pair : ℕ → ℕ → Bool) : ℕ → ℕ → Type 0 where
  one : {x y : ℕ} → pair x y ≡ true → Chain pair x y
  more : {x m y : ℕ} → pair x m ≡ true → Chain pair m y → Chain pair x y

-- Role or unit x is below y, by any chain of the hierarchy.
abbrev pub Below : Facts → Side → ℕ → ℕ → Type 0
Below S k x y = Chain (under S k) x y

-- The hierarchy runs in a circle: something is below itself.
abbrev pub Circle : Facts → Side → Type 0
Circle S k = (x : ℕ) × Below S k x x
