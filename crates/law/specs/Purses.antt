-- A purse: places, each empty or with a ticket of any engine in any state.
use Rattle.std.specs.Prelude.{ℕ, Bool, true, false, ◌&&◌, List, length, Some, None, Option, nat_lt, slice_index_or}
use Rattle.engine.specs.declared.ticket.OpenTicket.{OpenTicket}
use Rattle.engine.specs.declared.ticket.ClearedTicket.{ClearedTicket}
use Rattle.engine.specs.declared.ticket.Ticket.{Ticket}
use Rattle.engine.specs.declared.ticket.Ticket.TheVariants.{Open, Cleared}

abbrev pub Purse : Type 0
Purse = List (Option Ticket)

-- The ticket in a place.
abbrev pub ticket_at : Purse → ℕ → Option Ticket
ticket_at p i = slice_index_or p i None

abbrev pub if_open : Option Ticket → Option OpenTicket
if_open None = None
if_open (Some (Open k)) = Some k
if_open (Some (Cleared k)) = None

abbrev pub if_cleared : Option Ticket → Option ClearedTicket
if_cleared None = None
if_cleared (Some (Open k)) = None
if_cleared (Some (Cleared k)) = Some k

abbrev pub is_none : Option Ticket → Bool
is_none None = true
is_none (Some k) = false

-- The purse has this place, and it is empty.
abbrev pub is_free : Purse → ℕ → Bool
is_free p i = nat_lt i (length p) && is_none (ticket_at p i)
