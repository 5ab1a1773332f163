-- A run: an engine is made, and orders follow one after another.
use Rattle.std.specs.Prelude.{◌≡◌, ℕ, ◌+◌, ◌<◌, List, slice_index_or}
use Rattle.transfer.specs.Contents.{Writing}
use Rattle.law.specs.Orders.{Scene, Obeys}
use Rattle.law.specs.declared.order.Order.{Order}
use Rattle.law.specs.declared.order.Order.TheVariants as O
use Rattle.law.specs.declared.order.Answer.{Answer}

-- Order k of the list.
abbrev pub order_at : List Order → ℕ → Order
order_at orders k = slice_index_or orders k (O.Set 0)

-- A run of the first n orders of a list, from a scene: the scenes at its moments 0 to n, the answers to its orders, and that each order led from one
-- scene to the next as it is defined.
pub record Run (W : Writing) (start : Scene) (orders : List Order) (n : ℕ) : Type 0 where
  pub scene : ℕ → Scene
  pub answer : ℕ → Answer
  pub begins : scene 0 ≡ start
  pub goes_on : (k : ℕ) → k < n → Obeys W (order_at orders k) (scene k) (answer k) (scene (k + 1))
