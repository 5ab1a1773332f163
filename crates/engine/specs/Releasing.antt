-- The release of a cleared change.
use Rattle.std.specs.Prelude.{◌≡◌, ◌≤◌, Ok, Err, Result, MatchOption}
use Rattle.model.specs.Sizes.{size}
use Rattle.transfer.specs.Contents.{Writing}
use Rattle.transfer.specs.Orders.{written_out}
use Rattle.drafts.specs.Steps.{State}
use Rattle.engine.specs.declared.refusal.Refusal.{Refusal}
use Rattle.engine.specs.declared.refusal.Refusal.TheVariants.{Ticket}
use Rattle.engine.specs.declared.ticket.ClearedTicket.{ClearedTicket}
use Rattle.engine.specs.Answered.{Gives}
use Rattle.engine.specs.Moments.{Moment, idle, cleared_draft}

-- The draft's facts are written to the store in their fixed order, its rules are the book's, and the change has ended.
abbrev pub after_release : Writing → State → Moment → Moment
after_release W D m =
    record { store = written_out W D.facts m.store; book = D.slots; number = m.number; changes = m.changes; change = idle }

-- The release of the draft D. Where D fits the store, the store then holds its facts and no others.
pub record Released (W : Writing) (m : Moment) (D : State) (r : Result (Unit {0}) (Refusal × ClearedTicket)) (n : Moment) : Type 0 where
  pub gives : Gives r (Ok tt) n (after_release W D m)
  pub exact : size D.facts ≤ m.store.capacity → n.store.facts ≡ D.facts

abbrev pub Releases : Writing → Moment → ClearedTicket → Result (Unit {0}) (Refusal × ClearedTicket) → Moment → Type 0
Releases W m k r n = MatchOption (cleared_draft m k) (Gives r (Err (Ticket 255, k)) n m) (λ D. Released W m D r n)
