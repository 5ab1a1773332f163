-- The scene that an engine and a purse make, and what a call does between two of them.
use Rattle.std.specs.Prelude.{Result}
use Rattle.model.specs.declared.reading.Reading.{Ghosts as ReadingOf}
use Rattle.model.specs.declared.store.Store.{Ghosts as StoreOf}
use Rattle.transfer.specs.Contents.{writing}
use Rattle.engine.specs.Views.{moment}
use Rattle.engine.specs.declared.engine.Engine.{Engine}
use Rattle.engine.specs.declared.refusal.Refusal.{Refusal}
use Rattle.law.specs.Orders.{Scene, Obeys, outcome_of}
use Rattle.law.specs.Purses.{Purse}
use Rattle.law.specs.declared.order.Answer.{Answer}
use Rattle.law.specs.declared.order.Order.{Order}

abbrev pub scene : {S : Type 0} → ReadingOf S → StoreOf S → Engine S → Purse → Scene
scene R G e p = record { engine = moment R G e; purse = p }

-- The order's call led from engine e and purse p to engine f and purse q, and came out as r.
abbrev pub Calls : {S : Type 0} → ReadingOf S → StoreOf S → Order → (e : Engine S) (p : Purse) → Result Answer Refusal → (f : Engine S) (q : Purse) → Type 0
Calls R G o e p r f q = Obeys (writing G) o (scene R G e p) (outcome_of r) (scene R G f q)
