use Rattle.std.proofs.Common.{ap, ◌∙◌, arith}
use Rattle.std.proofs.lemmas.Bool.{both_ways}
use Rattle.bits.specs.Bit.{bit}
use Rattle.bits.proofs.Laws.{bit-none, bit-some, bit_below}
use Rattle.bits.proofs.Lowest.{at-lowest, below-lowest}
use Rattle.bits.proofs.Bits.lowest.Goals as goal

pub returns-else-is_empty : goal.returns-else-is_empty
returns-else-is_empty c =
    let w = c.args.self.word in
    let some = bit-some w (λ z. both_ways c.is_empty.result c.if-is_empty.false (c.is_empty.ensures.1 (λ k. ap (λ v. bit v k) z ∙ bit-none k))) in
    (at-lowest 64 w some.0 (bit_below w 64 some.0 (omega arith) some.1) some.1, below-lowest 64 w)
