-- What a run leaves to its caller.
use Rattle.std.specs.Prelude.{◌≡◌, ℕ, ◌<◌, ◌≤◌, min, List, length, slice_index_or}
use Rattle.transfer.specs.Contents.{Writing}
use Rattle.engine.specs.Moments.{Moment}
use Rattle.law.specs.Law.{Law}
use Rattle.law.specs.Orders.{Scene}
use Rattle.law.specs.Purses.{Purse}
use Rattle.law.specs.Runs.{Run}
use Rattle.law.specs.declared.order.Order.{Order}
use Rattle.law.specs.declared.order.Answer.{Answer}
use Rattle.law.specs.declared.order.Answer.TheVariants as A

-- As many orders are obeyed as there is room for their answers.
abbrev pub obeyed : List Order → List Answer → ℕ
obeyed orders answers = min (length orders) (length answers)

-- From the start, with these orders and this room for answers, a run was made that keeps the law; engine, purse and answers are left as it says.
pub record Ran (W : Writing) (start : Scene) (orders : List Order) (room : List Answer) (engine : Moment) (purse : Purse) (answers : List Answer) : Type 0 where
  pub run : Run W start orders (obeyed orders room)
  pub law : Law run
  pub last_engine : engine ≡ (run.scene (obeyed orders room)).engine
  pub last_purse : purse ≡ (run.scene (obeyed orders room)).purse
  pub told : (k : ℕ) → k < obeyed orders room → slice_index_or answers k A.NoCall ≡ run.answer k
  pub untold : (k : ℕ) → obeyed orders room ≤ k → slice_index_or answers k A.NoCall ≡ slice_index_or room k A.NoCall
