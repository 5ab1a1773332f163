-- An effect on two sets is an effect on the people that they decide.
use Rattle.std.proofs.Common.{◌≡◌, ℕ, Bool, true, Decides}
use Rattle.previews.specs.Effects.{EffectOf, Within, Beyond}
use Rattle.previews.specs.declared.effect.Effect.{Effect}
use Rattle.previews.specs.declared.effect.Effect.TheVariants.{Same, Reduction, Expansion, Neither}

within_told : (f g : ℕ → Bool) (P Q : ℕ → Type 0) → ((a : ℕ) → Decides (f a) (P a)) → ((a : ℕ) → Decides (g a) (Q a))
    → Within (λ a. f a ≡ true) (λ a. g a ≡ true) → Within P Q
within_told f g P Q d e w a p = (e a).0 (w a ((d a).1 p))

beyond_told : (f g : ℕ → Bool) (P Q : ℕ → Type 0) → ((a : ℕ) → Decides (f a) (P a)) → ((a : ℕ) → Decides (g a) (Q a))
    → Beyond (λ a. f a ≡ true) (λ a. g a ≡ true) → Beyond P Q
beyond_told f g P Q d e b = (b.0, (d b.0).0 b.1, λ q. b.2 ((e b.0).1 q))

pub effect-told : (f g : ℕ → Bool) (P Q : ℕ → Type 0) → ((a : ℕ) → Decides (f a) (P a)) → ((a : ℕ) → Decides (g a) (Q a))
    → (e : Effect) → EffectOf (λ a. f a ≡ true) (λ a. g a ≡ true) e → EffectOf P Q e
effect-told f g P Q d e Same h = λ a. (λ p. (e a).0 ((h a).0 ((d a).1 p)), λ q. (d a).0 ((h a).1 ((e a).1 q)))
effect-told f g P Q d e Reduction h = (within_told f g P Q d e h.0, beyond_told g f Q P e d h.1)
effect-told f g P Q d e Expansion h = (within_told g f Q P e d h.0, beyond_told f g P Q d e h.1)
effect-told f g P Q d e Neither h = (beyond_told f g P Q d e h.0, beyond_told g f Q P e d h.1)
