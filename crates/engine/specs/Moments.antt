-- An engine at a moment: what is released, and the change in preparation.
use Rattle.std.specs.Prelude.{ℕ, Bool, cond, ◌&&◌, Some, None, Option, ◌==◌}
use Rattle.transfer.specs.Contents.{Content}
use Rattle.drafts.specs.Slots.{Slots}
use Rattle.drafts.specs.Steps.{State}
use Rattle.engine.specs.declared.change.Stage.{Stage}
use Rattle.engine.specs.declared.change.Stage.TheVariants.{Open as AtOpen, Cleared as AtCleared}
use Rattle.engine.specs.declared.ticket.OpenTicket.{OpenTicket}
use Rattle.engine.specs.declared.ticket.ClearedTicket.{ClearedTicket}
use Rattle.engine.specs.declared.ticket.Ticket.{Ticket}
use Rattle.engine.specs.declared.ticket.Ticket.TheVariants.{Open, Cleared}

-- The change in preparation: none, or one that is open or cleared, with the model and the rules of its draft.
pub data Change : Type 0 where
  idle : Change
  opened : State → Change
  cleared : State → Change

pub record Moment : Type 0 where
  -- the released facts, in their store
  pub store : Content
  -- the released rules
  pub book : Slots
  -- the engine's number
  pub number : ℕ
  -- how many changes were opened; the last of them has this number
  pub changes : ℕ
  pub change : Change

-- The released model and rules.
abbrev pub released : Moment → State
released m = record { facts = m.store.facts; slots = m.book }

-- The moment with another change in preparation; all else is as it was.
abbrev pub with_change : Moment → Change → Moment
with_change m c = record { store = m.store; book = m.book; number = m.number; changes = m.changes; change = c }

-- A ticket with these numbers is of this engine and of the last change that was opened.
abbrev pub names : Moment → (engine change : ℕ) → Bool
names m e c = e == m.number && c == m.changes

abbrev pub draft_if_open : Change → Option State
draft_if_open idle = None
draft_if_open (opened D) = Some D
draft_if_open (cleared D) = None

abbrev pub draft_if_cleared : Change → Option State
draft_if_cleared idle = None
draft_if_cleared (opened D) = None
draft_if_cleared (cleared D) = Some D

abbrev pub draft_if : Stage → Change → Option State
draft_if AtOpen c = draft_if_open c
draft_if AtCleared c = draft_if_cleared c

-- The draft of the change at this stage, if its ticket has these numbers.
abbrev pub draft_at : Moment → Stage → (engine change : ℕ) → Option State
draft_at m s e c = cond (names m e c) (draft_if s m.change) None

-- The draft of the open change, if the ticket is its ticket.
abbrev pub open_draft : Moment → OpenTicket → Option State
open_draft m k = cond (names m k.engine k.change) (draft_if_open m.change) None

-- The draft of the cleared change, if the ticket is its ticket.
abbrev pub cleared_draft : Moment → ClearedTicket → Option State
cleared_draft m k = cond (names m k.engine k.change) (draft_if_cleared m.change) None

-- The draft of the change, if the ticket is its ticket and of its state.
abbrev pub draft_of : Moment → Ticket → Option State
draft_of m (Open k) = open_draft m k
draft_of m (Cleared k) = cleared_draft m k
