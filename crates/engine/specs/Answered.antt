-- What a call answers and leaves.
use Rattle.std.specs.Prelude.{◌≡◌, Bool, cond, Some, None, Ok, Err, Option, Result}
use Rattle.engine.specs.Moments.{Moment}

-- The answer r is x, and the moment n after the call is y.
pub record Gives {A : Type 0} (r x : A) (n y : Moment) : Type 0 where
  pub answer : r ≡ x
  pub after : n ≡ y

-- Accepted with this value, or refused so.
abbrev pub answered : {A W : Type 0} → Option W → A → Result A W
answered None a = Ok a
answered (Some w) a = Err w

-- Refused so where the ground is given; otherwise the grounds below it decide.
abbrev pub refused_if : {W : Type 0} → Bool → W → Option W → Option W
refused_if given w rest = cond given (Some w) rest

-- What is new where the call is accepted, and what was before where it is refused.
abbrev pub outcome : {A W : Type 0} → Option W → A → A → A
outcome None new old = new
outcome (Some w) new old = old
