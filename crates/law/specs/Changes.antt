-- Which steps a released change held.
use Rattle.std.specs.Prelude.{◌≡◌, ℕ, ◌<◌, ◌≤◌, List, ◌≢◌}
use Rattle.transfer.specs.Contents.{Writing}
use Rattle.drafts.specs.declared.step.Step.{Step}
use Rattle.law.specs.Orders.{Scene}
use Rattle.law.specs.Runs.{Run, order_at}
use Rattle.law.specs.declared.order.Order.{Order}
use Rattle.law.specs.declared.order.Order.TheVariants as O
use Rattle.law.specs.declared.order.Answer.TheVariants as A

module _ {W : Writing} {start : Scene} {orders : List Order} {n : ℕ} (run : Run W start orders n) where
  -- Order l made this step, and it was accepted.
  pub record StepMade (l : ℕ) (step : Step) : Type 0 where
    pub place : ℕ
    pub order : order_at orders l ≡ O.Step place step
    pub accepted : run.answer l ≡ A.Stepped

  -- The change that is in preparation when order k comes holds the step: it was made before, and no change was opened since.
  pub record Holds (k : ℕ) (step : Step) : Type 0 where
    pub at : ℕ
    pub before : at < k
    pub made : StepMade at step
    pub same_change : (h : ℕ) → at < h → h < k → run.answer h ≢ A.Opened

  -- The changes released from moment i to moment j held only steps of this kind.
  abbrev pub ReleasedOnly : (Step → Type 0) → (i j : ℕ) → Type 0
  ReleasedOnly Kind i j = (k : ℕ) → i ≤ k → k < j → run.answer k ≡ A.Released → (step : Step) → Holds k step → Kind step

  -- Nothing was released from moment i to moment j.
  abbrev pub NothingReleased : (i j : ℕ) → Type 0
  NothingReleased i j = (k : ℕ) → i ≤ k → k < j → run.answer k ≢ A.Released
