use Rattle.std.proofs.Common.{◌≡◌, ℕ}
use Rattle.drafts.specs.Edited.{unless_too_long}
use Rattle.drafts.specs.Slots.{slots_of}
use Rattle.drafts.proofs.BookSlots.{so_far}
use Rattle.drafts.proofs.regroup.edit_rules.Given as goal

abbrev pub invariant-loop-slot : goal.invariant-loop-slot
invariant-loop-slot g l =
    (i : ℕ) → slots_of l.book i ≡ so_far (unless_too_long (g.C.Regrouping.too_long l.change) (g.C.Regrouping.ruled l.change)) (slots_of l.initial.book) l.slot i
