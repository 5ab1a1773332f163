-- The state that a draft is.
use Rattle.board.specs.Holding.{facts_of}
use Rattle.drafts.specs.Slots.{slots_of}
use Rattle.drafts.specs.Steps.{State}
use Rattle.drafts.specs.declared.draft.Draft.{Draft}

abbrev pub state_of : Draft → State
state_of d = record { facts = facts_of d.board; slots = slots_of d.book }
