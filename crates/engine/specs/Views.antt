-- The moment that an engine is at, and what is left untouched in full.
use Rattle.std.specs.Prelude.{◌≡◌, Some, None, Ok, Err, Option, Result}
use Rattle.model.specs.declared.reading.Reading.{Ghosts as ReadingOf}
use Rattle.model.specs.declared.store.Store.{Ghosts as StoreOf}
use Rattle.transfer.specs.Contents.{content}
use Rattle.drafts.specs.Slots.{slots_of}
use Rattle.drafts.specs.States.{state_of}
use Rattle.drafts.specs.Steps.{State}
use Rattle.engine.specs.declared.change.Change.{Change as Held}
use Rattle.engine.specs.declared.engine.Engine.{Engine}
use Rattle.engine.specs.declared.change.Stage.{Stage}
use Rattle.engine.specs.declared.change.Stage.TheVariants.{Open, Cleared}
use Rattle.engine.specs.Moments.{Moment, Change, idle, opened, cleared}

-- A change at this stage, with this draft.
abbrev pub change_at : Stage → State → Change
change_at Open D = opened D
change_at Cleared D = cleared D

-- The change that an engine holds.
abbrev pub change_in : Option Held → Change
change_in None = idle
change_in (Some c) = change_at c.stage (state_of c.draft)

-- A definition over the fields and no `Model` of the engine: the value of a `Model` needs a code, and a set of facts, which is a function, has none.
abbrev pub moment : {S : Type 0} → ReadingOf S → StoreOf S → Engine S → Moment
moment R G e =
    record {
      store = content R G e.store;
      book = slots_of e.book;
      number = e.number;
      changes = e.changes;
      change = change_in e.change;
    }

-- Store and book are the very same.
pub record Untouched {S : Type 0} (e f : Engine S) : Type 0 where
  pub store : f.store ≡ e.store
  pub book : f.book ≡ e.book

-- A refused call leaves the very same engine.
abbrev pub SameIfRefused : {S A W : Type 0} → Result A W → (e f : Engine S) → Type 0
SameIfRefused (Ok a) e f = Unit {0}
SameIfRefused (Err w) e f = f ≡ e

-- What each call but a release keeps: store and book, and the whole engine where it is refused.
pub record Kept {S A W : Type 0} (r : Result A W) (e f : Engine S) : Type 0 where
  pub untouched : Untouched e f
  pub refused : SameIfRefused r e f
