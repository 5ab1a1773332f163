-- The four numbers of each refusal of a step.
use Rattle.std.specs.Prelude.{ℕ}
use Rattle.rules.specs.declared.fault.Numbers.{Numbers}
use Rattle.rules.specs.Refusals.{fault_numbers}
use Rattle.drafts.specs.declared.refusal.Refusal.{Refusal}
use Rattle.drafts.specs.declared.refusal.Refusal.TheVariants.{List, Range, Same, Empty, Absent, Standing, Held, NotHeld, Paired, Circle, Shares, TooLong}

-- A fault of a step other than one that a node list alone shows: layer 2, no node.
abbrev pub in_layer_2 : ℕ → ℕ → Numbers
in_layer_2 number slot = record { number = number; layer = 2; slot = slot; node = 255 }

abbrev pub refusal_numbers : Refusal → Numbers
refusal_numbers (List slot f) = fault_numbers slot f
refusal_numbers (Range slot) = in_layer_2 2 slot
refusal_numbers Same = in_layer_2 4 255
refusal_numbers (Empty slot) = in_layer_2 13 slot
refusal_numbers Absent = in_layer_2 14 255
refusal_numbers Standing = in_layer_2 15 255
refusal_numbers Held = in_layer_2 16 255
refusal_numbers NotHeld = in_layer_2 17 255
refusal_numbers Paired = in_layer_2 18 255
refusal_numbers Circle = in_layer_2 19 255
refusal_numbers Shares = in_layer_2 20 255
refusal_numbers (TooLong slot) = in_layer_2 21 slot
