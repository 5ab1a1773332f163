-- A step of the open change.
use Rattle.std.specs.Prelude.{Ok, Err, Result, MatchOption}
use Rattle.drafts.specs.Inputs.{input_verdict, step_slot}
use Rattle.drafts.specs.Steps.{State, Stepped}
use Rattle.drafts.specs.declared.refusal.Refusal.{Refusal as StepRefusal}
use Rattle.drafts.specs.declared.step.Step.{Step}
use Rattle.engine.specs.declared.refusal.Refusal.{Refusal}
use Rattle.engine.specs.declared.refusal.Refusal.TheVariants.{Step as StepRefused, Ticket}
use Rattle.engine.specs.declared.ticket.OpenTicket.{OpenTicket}
use Rattle.engine.specs.Answered.{Gives}
use Rattle.engine.specs.Moments.{Moment, opened, with_change, open_draft}

-- The engine answers as the draft does.
abbrev pub step_answer : Result (Unit {0}) StepRefusal → Result (Unit {0}) Refusal
step_answer (Ok u) = Ok tt
step_answer (Err w) = Err (StepRefused w)

-- Where the step is accepted, the change goes on with the edited draft; where it is refused, all is as it was.
abbrev pub after_step : Result (Unit {0}) StepRefusal → Moment → State → Moment
after_step (Ok u) m E = with_change m (opened E)
after_step (Err w) m E = m

-- The step on the draft D: it is answered and leaves a draft as a step does, and the draft alone is edited.
pub record StepTaken (m : Moment) (step : Step) (D : State) (r : Result (Unit {0}) Refusal) (n : Moment) : Type 0 where
  pub result : Result (Unit {0}) StepRefusal
  pub draft : State
  pub stepped : Stepped step D result draft
  pub gives : Gives r (step_answer result) n (after_step result m draft)

-- What the input shows goes first, then the ticket, then what the draft shows.
abbrev pub Steps : Moment → OpenTicket → Step → Result (Unit {0}) Refusal → Moment → Type 0
Steps m k step r n =
    MatchOption (input_verdict step)
    (MatchOption (open_draft m k) (Gives r (Err (Ticket (step_slot step))) n m) (λ D. StepTaken m step D r n))
    (λ w. Gives r (Err (StepRefused w)) n m)
