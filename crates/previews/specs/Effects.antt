-- What a change does to the people of a rule.
use Rattle.std.specs.Prelude.{ℕ, ◌↔◌}
use Rattle.previews.specs.declared.effect.Effect.{Effect}
use Rattle.previews.specs.declared.effect.Effect.TheVariants.{Same, Reduction, Expansion, Neither}

-- The number of an effect.
abbrev pub effect_number : Effect → ℕ
effect_number Same = 0
effect_number Reduction = 1
effect_number Expansion = 2
effect_number Neither = 3

-- All of the first are among the second.
abbrev pub Within : (P Q : ℕ → Type 0) → Type 0
Within P Q = (a : ℕ) → P a → Q a

-- Somebody is among the first and not among the second.
abbrev pub Beyond : (P Q : ℕ → Type 0) → Type 0
Beyond P Q = (a : ℕ) × P a × (Q a → ⊥)

-- The effect of new people in the place of old ones: the same; a reduction, a proper subset; an expansion, a proper superset; or neither.
abbrev pub EffectOf : (new old : ℕ → Type 0) → Effect → Type 0
EffectOf new old Same = (a : ℕ) → new a ↔ old a
EffectOf new old Reduction = Within new old × Beyond old new
EffectOf new old Expansion = Within old new × Beyond new old
EffectOf new old Neither = Beyond new old × Beyond old new
