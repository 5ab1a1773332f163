-- Making an engine, opening a change, reopening and withdrawing it.
use Rattle.std.specs.Prelude.{ℕ, ◌+◌, Bool, true, false, not, None, Ok, Err, Option, Result, MatchOption, nat_le}
use Rattle.model.specs.Facts.{nothing}
use Rattle.transfer.specs.Contents.{Content, Writing}
use Rattle.transfer.specs.Orders.{written_out}
use Rattle.engine.specs.declared.refusal.Refusal.{Refusal}
use Rattle.engine.specs.declared.refusal.Refusal.TheVariants.{Ticket as TicketRefused, Busy, Exhausted}
use Rattle.engine.specs.declared.ticket.OpenTicket.{OpenTicket}
use Rattle.engine.specs.declared.ticket.ClearedTicket.{ClearedTicket}
use Rattle.engine.specs.declared.ticket.Ticket.{Ticket}
use Rattle.engine.specs.Answered.{Gives, answered, outcome, refused_if}
use Rattle.engine.specs.Moments.{Moment, Change, idle, opened, cleared, released, with_change, cleared_draft, draft_of}

-- A new engine over a store: every fact is dropped from the store, and the book is empty.
abbrev pub made : Writing → Content → (number : ℕ) → Moment
made W C number = record { store = written_out W nothing C; book = λ slot. None; number = number; changes = 0; change = idle }

-- ── opening ──

abbrev pub is_idle : Change → Bool
is_idle idle = true
is_idle (opened D) = false
is_idle (cleared D) = false

abbrev pub open_ticket : (engine change : ℕ) → OpenTicket
open_ticket e c = record { engine = e; change = c }

abbrev pub open_verdict : Moment → Option Refusal
open_verdict m = refused_if (not (is_idle m.change)) Busy (refused_if (nat_le 1000000 m.changes) Exhausted None)

-- The next change is open, and its draft begins with what is released.
abbrev pub begun : Moment → Moment
begun m = record { store = m.store; book = m.book; number = m.number; changes = m.changes + 1; change = opened (released m) }

abbrev pub Opens : Moment → Result OpenTicket Refusal → Moment → Type 0
Opens m r n = Gives r (answered (open_verdict m) (open_ticket m.number (m.changes + 1))) n (outcome (open_verdict m) (begun m) m)

-- ── reopening ──

-- The cleared change is open again, with the same draft; or the ticket is given back.
abbrev pub Reopens : Moment → ClearedTicket → Result OpenTicket (Refusal × ClearedTicket) → Moment → Type 0
Reopens m k r n =
    MatchOption (cleared_draft m k) (Gives r (Err (TicketRefused 255, k)) n m)
    (λ D. Gives r (Ok (open_ticket k.engine k.change)) n (with_change m (opened D)))

-- ── withdrawing ──

-- The change ends, and nothing is released. The ticket is spent either way.
abbrev pub Withdraws : Moment → Ticket → Result (Unit {0}) Refusal → Moment → Type 0
Withdraws m k r n = MatchOption (draft_of m k) (Gives r (Err (TicketRefused 255)) n m) (λ D. Gives r (Ok tt) n (with_change m idle))
