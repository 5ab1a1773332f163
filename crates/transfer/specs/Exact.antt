-- A model that fits is written whole.
use Rattle.std.specs.Prelude.{◌≡◌, ◌≤◌}
use Rattle.model.specs.Facts.{Facts, OnlyPossible}
use Rattle.model.specs.Sizes.{size}
use Rattle.transfer.specs.Contents.{Content, Writing}
use Rattle.transfer.specs.Orders.{written_out}

-- Where the store has room for the model, it holds the model's facts afterwards and no others. So no put was turned down: its fact would be missing.
abbrev pub FittingModelIsHeld : Type 0
FittingModelIsHeld =
    (W : Writing) (M : Facts) (C : Content) → OnlyPossible M → OnlyPossible C.facts → size M ≤ C.capacity
    → (written_out W M C).facts ≡ M
