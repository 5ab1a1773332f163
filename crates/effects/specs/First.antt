-- Which grounds of a step go first.
use Rattle.std.specs.Prelude.{◌≡◌, ◌≢◌, Some, Err, Result}
use Rattle.drafts.specs.Inputs.{input_verdict}
use Rattle.drafts.specs.Steps.{State, Stepped}
use Rattle.drafts.specs.declared.refusal.Refusal.{Refusal}
use Rattle.drafts.specs.declared.step.Step.{Step}

-- Where the input shows a ground, the step cannot be answered otherwise than by that refusal, whatever the draft holds.
abbrev pub InputsGoFirst : Type 0
InputsGoFirst =
    (step : Step) (S T : State) (r : Result (Unit {0}) Refusal) (w : Refusal) → input_verdict step ≡ Some w → Stepped step S r T → ¬ (r ≢ Err w)
