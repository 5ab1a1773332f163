use Rattle.std.proofs.Common.{◌<◌, Bool, not, None, ap, ◌∙◌}
use Rattle.std.proofs.lemmas.Bool.{lt-ltb}
use Rattle.drafts.specs.declared.refusal.Refusal.TheVariants.{Range}
use Rattle.drafts.specs.Grounds.{put_verdict, refused_if}
use Rattle.drafts.proofs.BookSlots.{read_tree}
use Rattle.drafts.proofs.inputs.checked_rule.Goals as goal

pub returns-in_ok-checked_slot-in-Ok : goal.returns-in_ok-checked_slot-in-Ok
returns-in_ok-checked_slot-in-Ok c =
    let slot = c.args.slot in
    let read = c.in-Ok.ensures in
    let within : slot < 32 = c.in_ok-checked_slot-in-Ok.ensures.within in (
      ap (put_verdict slot) read.0 ∙ ap (λ (b : Bool). refused_if (not b) (Range slot) None) (lt-ltb slot 32 within),
      (within, read_tree c.in-Ok.rule c.args.list.now read.1),
    )
