use Rattle.std.proofs.Common.{sym, ap, ◌∙◌}
use Rattle.std.proofs.lemmas.Bool.{eqb-true, eq-eqb}
use Rattle.bits.proofs.Laws.{bit-none, bit-same}
use Rattle.bits.specs.Bit.{bit}
use Rattle.bits.proofs.Bits.is_empty.Goals as goal

pub returns : goal.returns
returns c =
    let w = c.args.self.word in
    (λ e k. ap (λ v. bit v k) (eqb-true w 0 e) ∙ bit-none k, λ h. eq-eqb w 0 (bit-same w 0 (λ k. h k ∙ sym (bit-none k))))
