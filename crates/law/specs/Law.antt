-- The law over runs: what holds at every moment, and between every two moments.
use Rattle.std.specs.Prelude.{◌≡◌, ℕ, ◌<◌, ◌≤◌, Bool, List, pos, negsuc, ◌≤ℤ◌, Result}
use Rattle.bits.specs.declared.Bits.{Bits}
use Rattle.model.specs.Sizes.{size}
use Rattle.transfer.specs.Contents.{Writing}
use Rattle.previews.specs.declared.preview.Preview.{Preview}
use Rattle.drafts.specs.Steps.{State}
use Rattle.effects.specs.Kept.{NoCircle}
use Rattle.engine.specs.declared.refusal.Refusal.{Refusal}
use Rattle.engine.specs.Asking.{TellsSet, TellsWhether}
use Rattle.engine.specs.Checking.{AllValid}
use Rattle.engine.specs.Moments.{Moment, cleared, released}
use Rattle.law.specs.Changes.{ReleasedOnly, NothingReleased}
use Rattle.law.specs.Kinds.{IsSplit, IsSplitOrJoin}
use Rattle.law.specs.Orders.{Scene}
use Rattle.law.specs.People.{SamePeople, NobodyLost}
use Rattle.law.specs.Runs.{Run}
use Rattle.law.specs.declared.order.Order.{Order}
use Rattle.law.specs.declared.order.Answer.TheVariants as A

module _ {W : Writing} {start : Scene} {orders : List Order} {n : ℕ} (run : Run W start orders n) where
  -- The engine at moment i: after its making, and after each order.
  abbrev pub at : ℕ → Moment
  at i = (run.scene i).engine

  pub record Law : Type 0 where
    -- Every released rule names only entities that stand, and somebody qualifies for it.
    pub rules_are_valid : (i : ℕ) → i ≤ n → AllValid (released (at i))
    -- Neither hierarchy runs in a circle.
    pub no_circle : (i : ℕ) → i ≤ n → NoCircle (at i).store.facts
    -- If the changes released since held only splits, the same slots are filled at both moments, each with the same people.
    pub splits_keep_everyone : (i j : ℕ) → i ≤ j → j ≤ n → ReleasedOnly run IsSplit i j → SamePeople (released (at i)) (released (at j))
    -- If they held only splits and joins, the same slots are filled at both, a rule without NOT lost nobody, and a rule of negated leaves gained nobody.
    pub joins_lose_nobody : (i j : ℕ) → i ≤ j → j ≤ n → ReleasedOnly run IsSplitOrJoin i j → NobodyLost (released (at i)) (released (at j))
    -- If nothing was released since, the set for a slot is the same at both moments, and so is a refusal to tell it.
    pub sets_stay : (i j : ℕ) → i ≤ j → j ≤ n → NothingReleased run i j → (slot : ℕ) (r q : Result Bits Refusal)
        → TellsSet (released (at i)) slot r → TellsSet (released (at j)) slot q → q ≡ r
    -- And so is yes or no for a slot and an actor.
    pub yes_or_no_stays : (i j : ℕ) → i ≤ j → j ≤ n → NothingReleased run i j → (slot actor : ℕ) (r q : Result Bool Refusal)
        → TellsWhether (released (at i)) slot actor r → TellsWhether (released (at j)) slot actor q → q ≡ r
    -- A cleared draft fits the store, so no release turns down a put.
    pub cleared_drafts_fit : (i : ℕ) → i ≤ n → (D : State) → (at i).change ≡ cleared D → size D.facts ≤ (at i).store.capacity
    -- A preview's difference is from −64 to 63.
    pub differences_in_range : (k : ℕ) → k < n → (p : Preview) → run.answer k ≡ A.Preview p
        → (negsuc 63 ≤ℤ p.difference) × (p.difference ≤ℤ pos 63)
