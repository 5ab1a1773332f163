-- The four numbers of each refusal: number, layer, slot, node. 255 stands where there is no slot or no node.
use Rattle.std.specs.Prelude.{ℕ}
use Rattle.rules.specs.declared.fault.Numbers.{Numbers}
use Rattle.answers.specs.declared.validity.Invalid.{Invalid}
use Rattle.answers.specs.declared.validity.Invalid.TheVariants.{Absent, Nobody}
use Rattle.drafts.specs.Refusals.{refusal_numbers as step_numbers}
use Rattle.engine.specs.declared.refusal.Refusal.{Refusal}
use Rattle.engine.specs.declared.refusal.Refusal.TheVariants.{Step, Ticket, Busy, Exhausted, Range, Empty, Unfit as IsUnfit}
use Rattle.engine.specs.declared.refusal.Unfit.{Unfit}
use Rattle.engine.specs.declared.refusal.Unfit.TheVariants.{Rule, TooMany}

-- A fault of a ticket, an opening, a check or a question: layer 3.
abbrev pub in_layer_3 : (number slot node : ℕ) → Numbers
in_layer_3 number slot node = record { number = number; layer = 3; slot = slot; node = node }

abbrev pub invalid_numbers : ℕ → Invalid → Numbers
invalid_numbers slot (Absent node) = in_layer_3 22 slot node
invalid_numbers slot Nobody = in_layer_3 23 slot 255

abbrev pub unfit_numbers : Unfit → Numbers
unfit_numbers (Rule slot why) = invalid_numbers slot why
unfit_numbers TooMany = in_layer_3 24 255 255

abbrev pub refusal_numbers : Refusal → Numbers
refusal_numbers (Step w) = step_numbers w
refusal_numbers (Ticket slot) = in_layer_3 10 slot 255
refusal_numbers Busy = in_layer_3 11 255 255
refusal_numbers Exhausted = in_layer_3 12 255 255
refusal_numbers (Range slot) = in_layer_3 2 slot 255
refusal_numbers (Empty slot) = in_layer_3 13 slot 255
refusal_numbers (IsUnfit w) = unfit_numbers w
