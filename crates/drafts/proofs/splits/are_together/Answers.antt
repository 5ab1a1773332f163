use Rattle.std.proofs.Common.{rules, sym, ap, ◌∙◌}
use Rattle.bits.specs.Bit.{bit}
use Rattle.bits.specs.declared.Bits.{Bits}
use Rattle.bits.proofs.Laws.{bit-same}
use Rattle.drafts.proofs.splits.are_together.Goals as goal

pub returns : goal.returns
returns c =
    let u = c.or.result in
    let set = c.args.set in
    (λ h i. sym (c.or.ensures i) ∙ ap (λ (s : Bits). bit s.word i) (search rules), λ h. let e = bit-same u.word set.word (λ i. c.or.ensures i ∙ h i) in search rules)
