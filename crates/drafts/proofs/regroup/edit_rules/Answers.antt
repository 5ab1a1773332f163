use Rattle.std.proofs.Common.{◌≡◌, ℕ, ap, ◌∙◌, arith}
use Rattle.drafts.specs.Edited.{unless_too_long}
use Rattle.drafts.specs.Slots.{slots_of}
use Rattle.drafts.proofs.BookSlots.{so_far, none_yet, one_more, all_edited}
use Rattle.drafts.proofs.regroup.edit_rules.Goals as goal

pub loop-slot-init : goal.loop-slot-init
loop-slot-init g c = none_yet (unless_too_long (g.C.Regrouping.too_long c.args.change.now) (g.C.Regrouping.ruled c.args.change.now)) (slots_of c.args.book.now)

pub loop-slot-preserved : goal.loop-slot-preserved
loop-slot-preserved g c =
    one_more (unless_too_long (g.C.Regrouping.too_long c.args.change.now) (g.C.Regrouping.ruled c.args.change.now)) (slots_of c.args.book.now)
    (slots_of c.loop-slot.book) (slots_of c.edit_slot.new.book) c.loop-slot.slot c.loop-slot.invariant c.edit_slot.ensures

pub returns : goal.returns
returns g c i =
    let edit = unless_too_long (g.C.Regrouping.too_long c.args.change.now) (g.C.Regrouping.ruled c.args.change.now) in
    let end : c.loop-slot.slot ≡ 32 = omega arith in
    c.loop-slot.invariant i ∙ ap (λ (k : ℕ). so_far edit (slots_of c.args.book.now) k i) end ∙ all_edited edit c.args.book.now i
