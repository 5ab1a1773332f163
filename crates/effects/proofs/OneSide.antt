-- A model with the facts of one side replaced, side by side.
use Rattle.std.proofs.Common.{◌≡◌, ℕ, Bool, true, false, ◌⊎◌, refl, ◌∙◌}
use Rattle.model.specs.Facts.{Facts}
use Rattle.model.specs.Sides.{actor_stands}
use Rattle.model.specs.Chains.{Chain}
use Rattle.model.specs.declared.side.Side.{Side}
use Rattle.model.specs.declared.side.Side.TheVariants.{Role, Unit}
use Rattle.rules.specs.Edits.{same_side}
use Rattle.answers.specs.Qualify.{EndsStand}
use Rattle.drafts.specs.Sided.{Sided, sided, with_side}
use Rattle.effects.specs.Kept.{NoCircle}

pub same_refl : (k : Side) → same_side k k ≡ true
same_refl Role = refl
same_refl Unit = refl

-- what holds of the new facts at their side holds there
pub own_side : (F : Facts) (k : Side) (S : Sided) (P : Sided → Type 0) → P S → P (sided (with_side F k S) k)
own_side F Role S P p = p
own_side F Unit S P p = p

-- what holds of the new facts at their side, and of the old at the other, holds at each side
pub each_side : (F : Facts) (k : Side) (S : Sided) (P : Side → Sided → Type 0) → P k S → ((j : Side) → same_side j k ≡ false → P j (sided F j)) → (j : Side) → P j (sided (with_side F k S) j)
each_side F Role S P p q Role = p
each_side F Role S P p q Unit = q Unit refl
each_side F Unit S P p q Role = q Role refl
each_side F Unit S P p q Unit = p

pub actors_left : (F : Facts) (k : Side) (S : Sided) (a : ℕ) → actor_stands (with_side F k S) a ≡ actor_stands F a
actors_left F Role S a = refl
actors_left F Unit S a = refl

-- the ends of every pair of a side stand, where P says which actors do
pub record Ends (P : ℕ → Bool) (S : Sided) : Type 0 where
  pub actor : (a y : ℕ) → S.has a y ≡ true → P a ≡ true
  pub group : (a y : ℕ) → S.has a y ≡ true → S.stands y ≡ true
  pub lower : (x y : ℕ) → S.under x y ≡ true → S.stands x ≡ true
  pub upper : (x y : ℕ) → S.under x y ≡ true → S.stands y ≡ true

pub side_ends : (F : Facts) → EndsStand F → (k : Side) → Ends (actor_stands F) (sided F k)
side_ends F w k = record { actor = w.actor k; group = w.group k; lower = w.lower k; upper = w.upper k }

pub with-ends : (F : Facts) (k : Side) (S : Sided) → EndsStand F → Ends (actor_stands F) S → EndsStand (with_side F k S)
with-ends F k S w v =
    let each : (j : Side) → Ends (actor_stands F) (sided (with_side F k S) j) = each_side F k S (λ _ (T : Sided). Ends (actor_stands F) T) v (λ j _. side_ends F w j) in
    record {
      actor = λ j a y q. actors_left F k S a ∙ (each j).actor a y q;
      group = λ j. (each j).group;
      lower = λ j. (each j).lower;
      upper = λ j. (each j).upper;
    }

-- the hierarchy of a side runs in a circle
abbrev pub Round : Sided → Type 0
Round S = (x : ℕ) × Chain S.under x x

pub with-no_circle : (F : Facts) (k : Side) (S : Sided) → NoCircle F → (Round S → ⊥) → NoCircle (with_side F k S)
with-no_circle F k S c d = each_side F k S (λ _ (T : Sided). Round T → ⊥) d (λ j _. c j)

-- actor a has r on that side, or under (+) something below r
abbrev pub Among : Sided → ℕ → Bool → ℕ → Type 0
Among S r plus a = (S.has a r ≡ true) ⊎ ((plus ≡ true) × ((x : ℕ) × (S.has a x ≡ true) × Chain S.under x r))
