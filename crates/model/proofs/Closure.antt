-- What a set of numbers must have to be all that is below one.
use Rattle.std.proofs.Common.{◌≡◌, ℕ, ◌<◌, Bool, true, false, not, ◌||◌, refl, ap}
use Rattle.bits.specs.Total.{tally}
use Rattle.bits.proofs.Totals.{tally_less}
use Rattle.model.specs.Facts.{Facts, OnlyPossible}
use Rattle.model.specs.Sides.{under_sort}
use Rattle.model.specs.Chains.{Chain, one, more, Below}
use Rattle.model.specs.declared.side.Side.{Side}
use Rattle.model.proofs.Possible.{parts}

-- a set with all that is directly below the top, and all that is directly below a member, has all that is below the top
pub closed : (pair : ℕ → ℕ → Bool) (member : ℕ → Bool) (top : ℕ) → ((x : ℕ) → pair x top ≡ true → member x ≡ true)
    → ((x m : ℕ) → pair x m ≡ true → member m ≡ true → member x ≡ true)
    → {x : ℕ} → Chain pair x top → member x ≡ true
closed pair member top first again {x} (one h) = first x h
closed pair member top first again {x} (more {m = m} h c) = again x m h (closed pair member top first again c)

-- what is below something is a number below 64
pub below-number : (S : Facts) (k : Side) → OnlyPossible S → {x y : ℕ} → Below S k x y → x < 64
below-number S k only {x} {y} (one h) = (parts (under_sort k) x y (only (under_sort k) x y h)).lower
below-number S k only {x} (more {m = m} h c) = (parts (under_sort k) x m (only (under_sort k) x m h)).lower

pub or-none : (a b : Bool) → b ≡ false → (a || b) ≡ a
or-none true b h = refl
or-none false b h = h

-- a set that gained one number leaves fewer outside
pub fewer : (old new : ℕ → Bool) (n i : ℕ) → i < n → old i ≡ false → new i ≡ true → ((k : ℕ) → (k ≡ i → ⊥) → new k ≡ old k)
    → tally (λ k. not (new k)) n < tally (λ k. not (old k)) n
fewer old new n i l out in_it off = tally_less (λ k. not (old k)) (λ k. not (new k)) n i l (ap not out) (ap not in_it) (λ k d. ap not (off k d))
