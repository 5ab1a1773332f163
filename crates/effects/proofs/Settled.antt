-- A model that a step leaves is sound, however the step's grounds are decided.
use Rattle.std.proofs.Common.{◌≡◌, ℕ, zero, suc, ◌<◌, Bool, true, false, Some, None, Decides, Option, Result, sym, refl, subst, inl, inr, arith}
use Rattle.std.proofs.lemmas.Bool.{true≢false}
use Rattle.std.proofs.lemmas.Bool.Decides.{eqb_tells}
use Rattle.model.specs.Facts.{Facts}
use Rattle.model.specs.Sides.{actor_stands, stands}
use Rattle.model.specs.declared.side.Side.{Side}
use Rattle.drafts.specs.Shares.{LowestLong, too_long}
use Rattle.drafts.specs.Slots.{Slots}
use Rattle.drafts.specs.Splitting.{Parts}
use Rattle.drafts.specs.Steps.{State, Done}
use Rattle.drafts.specs.declared.refusal.Refusal.{Refusal}
use Rattle.effects.specs.Sound.{Sound}

-- ── what cannot be false ──

true_unless_false : (b : Bool) → ((b ≡ true → ⊥) → ⊥) → b ≡ true
true_unless_false true h = refl
true_unless_false false h = absurd (h (λ e. true≢false (sym e)))

-- a model that cannot be unsound is sound
pub sound_unless_not : (F : Facts) → ((Sound F → ⊥) → ⊥) → Sound F
sound_unless_not F h = record {
  ends = record {
    actor = λ k a y q. true_unless_false (actor_stands F a) (λ no. h (λ s. no (s.ends.actor k a y q)));
    group = λ k a y q. true_unless_false (stands F k y) (λ no. h (λ s. no (s.ends.group k a y q)));
    lower = λ k x y q. true_unless_false (stands F k x) (λ no. h (λ s. no (s.ends.lower k x y q)));
    upper = λ k x y q. true_unless_false (stands F k y) (λ no. h (λ s. no (s.ends.upper k x y q)));
  };
  circles = λ k b. h (λ s. s.circles k b);
}

-- what is absurd however P is decided is absurd
pub either_decision : (P : Type 0) → ((c : Bool) → Decides c P → ⊥) → ⊥
either_decision P h = h false (λ e. absurd (true≢false (sym e)), λ p. absurd (h true (λ _. p, λ _. refl)))

-- a model that is sound however P is decided is sound
pub sound_if_decided : (P : Type 0) (F : Facts) → ((c : Bool) → Decides c P → Sound F) → Sound F
sound_if_decided P F h = sound_unless_not F (λ no. either_decision P (λ c d. no (h c d)))

module _ (k : Side) (D : Parts) (B : Slots) (h : (long : Option ℕ) → LowestLong k D B long → ⊥) where
  none_long_at : (n : ℕ) → ((i : ℕ) → i < n → too_long k D (B i) ≡ false) → (b : Bool) → too_long k D (B n) ≡ b → too_long k D (B n) ≡ false
  none_long_at n below true e = absurd (h (Some n) (e, below))
  none_long_at n below false e = e

  none_long_before : (n i : ℕ) → i < n → too_long k D (B i) ≡ false
  none_long_before zero i l = absurd (omega arith)
  none_long_before (suc n) i l =
      elim (eqb_tells i n) [
        | inl t ↦ subst (λ (j : ℕ). too_long k D (B j) ≡ false) (sym t.1) (none_long_at n (none_long_before n) (too_long k D (B n)) refl)
        | inr t ↦ let d = t.1 in none_long_before n i (omega arith)
      ]

  -- there is a lowest slot that is too long, or none
  pub some-lowest : ⊥
  some-lowest = h None (λ i. none_long_before (suc i) i (omega arith))

-- a model that is sound whichever slot is the lowest that is too long is sound
pub sound_if_lowest : (k : Side) (D : Parts) (B : Slots) (F : Facts) → ((long : Option ℕ) → LowestLong k D B long → Sound F) → Sound F
sound_if_lowest k D B F h = sound_unless_not F (λ no. some-lowest k D B (λ long d. no (h long d)))

-- ── what a step leaves ──

sound_over : (F G : Facts) → ((s x y : ℕ) → G s x y ≡ F s x y) → Sound F → Sound G
sound_over F G h w = subst (λ (H : Facts). Sound H) (λ i s x y. sym (h s x y) i) w

-- a step leaves a sound model if what it makes where it is accepted is sound
pub done_sound : (v : Option Refusal) (S N : State) (r : Result (Unit {0}) Refusal) (T : State)
    → Sound S.facts → (v ≡ None → Sound N.facts) → Done v S N r T → Sound T.facts
done_sound None S N r T w n d = sound_over N.facts T.facts d.facts (n refl)
done_sound (Some e) S N r T w n d = sound_over S.facts T.facts d.facts w
