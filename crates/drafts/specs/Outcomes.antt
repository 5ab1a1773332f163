-- What a call answers and leaves, by its verdict.
use Rattle.std.specs.Prelude.{Some, None, Ok, Err, Option, Result}
use Rattle.drafts.specs.declared.refusal.Refusal.{Refusal}

-- Accepted, or refused so.
abbrev pub answered : Option Refusal → Result (Unit {0}) Refusal
answered None = Ok tt
answered (Some w) = Err w

-- What is new where the call is accepted, and what was before where it is refused.
abbrev pub outcome : {A : Type 0} → Option Refusal → A → A → A
outcome None new old = new
outcome (Some w) new old = old
