-- Every step keeps a model sound.
use Rattle.std.specs.Prelude.{Result}
use Rattle.model.specs.Facts.{Facts}
use Rattle.answers.specs.Qualify.{EndsStand}
use Rattle.drafts.specs.Steps.{State, Stepped}
use Rattle.drafts.specs.declared.refusal.Refusal.{Refusal}
use Rattle.drafts.specs.declared.step.Step.{Step}
use Rattle.effects.specs.Kept.{NoCircle}

-- A model is sound if the ends of every pair stand and neither hierarchy runs in a circle.
pub record Sound (F : Facts) : Type 0 where
  pub ends : EndsStand F
  pub circles : NoCircle F

-- Whatever the step and whether or not it is refused, a sound model stays sound.
abbrev pub StepsStaySound : Type 0
StepsStaySound = (step : Step) (S T : State) (r : Result (Unit {0}) Refusal) → Stepped step S r T → Sound S.facts → Sound T.facts
