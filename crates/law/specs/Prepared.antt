-- What accepted steps make of a model and its rules, one after another.
use Rattle.std.specs.Prelude.{◌≡◌, ℕ, Some, Ok}
use Rattle.rules.specs.Trees.{Tree}
use Rattle.answers.specs.Validity.{NamesStand}
use Rattle.drafts.specs.Steps.{State, Stepped}
use Rattle.drafts.specs.declared.step.Step.{Step}
use Rattle.effects.specs.Sound.{Sound}
use Rattle.law.specs.Kinds.{AnyStep, IsSplit, IsSplitOrJoin}
use Rattle.law.specs.People.{SamePeople, NobodyLost}

-- D is what accepted steps of a kind, in order, make of R.
pub data Prepared (Kind : Step → Type 0) (R : State) : State → Type 0 where
  copied : {D : State} → D ≡ R → Prepared Kind R D
  stepped : {D E : State} (step : Step) → Prepared Kind R D → Kind step → Stepped step D (Ok tt) E → Prepared Kind R E

-- The model is sound, and every entity that a rule names stands.
pub record Firm (S : State) : Type 0 where
  pub sound : Sound S.facts
  pub names : (slot : ℕ) (t : Tree) → S.slots slot ≡ Some t → NamesStand S.facts t

-- Any accepted steps, one after another, keep a model sound.
abbrev pub StepsCarrySoundness : Type 0
StepsCarrySoundness = (R D : State) → Prepared AnyStep R D → Sound R.facts → Sound D.facts

-- Splits, one after another, keep the people of every rule.
abbrev pub SplitsCarryPeople : Type 0
SplitsCarryPeople = (R D : State) → Prepared IsSplit R D → Firm R → SamePeople R D

-- Splits and joins, one after another, take nobody from a rule without NOT and give nobody to a rule of negated leaves.
abbrev pub JoinsCarryPeople : Type 0
JoinsCarryPeople = (R D : State) → Prepared IsSplitOrJoin R D → Firm R → NobodyLost R D
