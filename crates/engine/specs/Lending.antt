-- What an engine lends of its change: the draft to be read, or the change to be changed.
use Rattle.std.specs.Prelude.{◌≡◌, ℕ, Some, None, Option}
use Rattle.std.specs.Borrow.{LendsIf, Bor, MutBor, Fml, RattleType}
use Rattle.drafts.specs.States.{state_of}
use Rattle.drafts.specs.Steps.{State}
use Rattle.drafts.specs.declared.draft.Draft.{Draft}
use Rattle.engine.specs.contracts.change.Change.{the_row as change_row}
use Rattle.engine.specs.contracts.engine.Engine.{the_row}
use Rattle.engine.specs.declared.change.Change.{Change as Held}
use Rattle.engine.specs.declared.engine.Engine.{Engine}
use Rattle.engine.specs.declared.change.Stage.{Stage}
use Rattle.engine.specs.Moments.{Moment, draft_at}

-- The state of a draft that is lent to be read.
abbrev pub draft_behind : Option (Bor Draft) → Option State
draft_behind None = None
draft_behind (Some d) = Some (state_of d.now)

abbrev pub with_held : {S : Type 0} → Engine S → Held → Engine S
with_held e c = record e { change = Some c }

-- The engine ends with what the borrower leaves of the change, or as it is where nothing is lent.
abbrev pub LendsChange : (S : RattleType) → MutBor (Engine S.Denot) → Option (MutBor Held) → Fml
LendsChange S e r = LendsIf (the_row S) change_row e r (with_held e.now) e.now

-- A change is lent exactly if there is one at this stage, and these are the numbers of its ticket.
abbrev pub Found : Moment → Option Held → Stage → (engine change : ℕ) → Option (MutBor Held) → Type 0
Found m held s e c None = draft_at m s e c ≡ None
Found m held s e c (Some r) = (held ≡ Some r.now) × (r.now.stage ≡ s) × (draft_at m s e c ≡ Some (state_of r.now.draft))
