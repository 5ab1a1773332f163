-- The check of a draft.
use Rattle.std.specs.Prelude.{◌≡◌, ℕ, ◌<◌, ◌≤◌, Some, None, Ok, Err, Option, Result, MatchOption}
use Rattle.model.specs.Facts.{Facts}
use Rattle.model.specs.Sizes.{size}
use Rattle.rules.specs.Trees.{Tree, nodes}
use Rattle.answers.specs.Validity.{NamesStand, Somebody, Valid, first_absent}
use Rattle.answers.specs.declared.validity.Invalid.{Invalid}
use Rattle.answers.specs.declared.validity.Invalid.TheVariants.{Absent, Nobody}
use Rattle.drafts.specs.Steps.{State}
use Rattle.engine.specs.declared.refusal.Refusal.{Refusal}
use Rattle.engine.specs.declared.refusal.Refusal.TheVariants.{Ticket, Unfit as IsUnfit}
use Rattle.engine.specs.declared.refusal.Unfit.{Unfit}
use Rattle.engine.specs.declared.refusal.Unfit.TheVariants.{Rule, TooMany}
use Rattle.engine.specs.declared.ticket.OpenTicket.{OpenTicket}
use Rattle.engine.specs.declared.ticket.ClearedTicket.{ClearedTicket}
use Rattle.engine.specs.Answered.{Gives, outcome}
use Rattle.engine.specs.Moments.{Moment, cleared, with_change, open_draft}

-- The slot is empty, or its rule is valid.
abbrev pub ValidAt : State → (slot : ℕ) → Type 0
ValidAt D slot = (t : Tree) → D.slots slot ≡ Some t → Valid D.facts t

-- The reason holds: that node is the first that names an entity that does not stand; or all names stand and nobody qualifies.
abbrev pub NotValid : Facts → Tree → Invalid → Type 0
NotValid F t (Absent i) = first_absent F 0 (nodes t) ≡ Some i
NotValid F t Nobody = NamesStand F t × (Somebody F t → ⊥)

-- The slot's rule is not valid, for this reason.
abbrev pub InvalidAt : State → (slot : ℕ) → Invalid → Type 0
InvalidAt D slot why = (t : Tree) × (D.slots slot ≡ Some t) × NotValid D.facts t why

-- Every rule in a slot below n is valid.
abbrev pub ValidBelow : State → ℕ → Type 0
ValidBelow D n = (i : ℕ) → i < n → ValidAt D i

-- Every rule is valid.
abbrev pub AllValid : State → Type 0
AllValid D = (i : ℕ) → ValidAt D i

-- What a check finds, with this capacity of the store: from slot 0 up the first rule that is not valid and why, then that the model has too many facts.
-- It finds nothing exactly if every rule is valid and the store can hold the model.
abbrev pub Finds : (capacity : ℕ) → State → Option Unfit → Type 0
Finds capacity D None = AllValid D × (size D.facts ≤ capacity)
Finds capacity D (Some (Rule slot why)) = ValidBelow D slot × InvalidAt D slot why
Finds capacity D (Some TooMany) = AllValid D × (capacity < size D.facts)

abbrev pub cleared_ticket : (engine change : ℕ) → ClearedTicket
cleared_ticket e c = record { engine = e; change = c }

abbrev pub check_answer : Option Unfit → OpenTicket → Result ClearedTicket (Refusal × OpenTicket)
check_answer None k = Ok (cleared_ticket k.engine k.change)
check_answer (Some w) k = Err (IsUnfit w, k)

-- The check of the draft D: the change is cleared exactly if nothing is found.
pub record Checked (m : Moment) (k : OpenTicket) (D : State) (r : Result ClearedTicket (Refusal × OpenTicket)) (n : Moment) : Type 0 where
  pub found : Option Unfit
  pub finds : Finds m.store.capacity D found
  pub gives : Gives r (check_answer found k) n (outcome found (with_change m (cleared D)) m)

abbrev pub Checks : Moment → OpenTicket → Result ClearedTicket (Refusal × OpenTicket) → Moment → Type 0
Checks m k r n = MatchOption (open_draft m k) (Gives r (Err (Ticket 255, k)) n m) (λ D. Checked m k D r n)
