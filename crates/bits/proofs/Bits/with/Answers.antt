use Rattle.std.proofs.Common.{Bool, ◌||◌, eqb, ltb, sym, ap, ◌∙◌}
use Rattle.std.proofs.lemmas.Bool.{lt-ltb}
use Rattle.bits.specs.Bit.{bit}
use Rattle.bits.proofs.Laws.{bit-with, and-true}
use Rattle.bits.proofs.Bits.with.Goals as goal

pub returns-then-i-lt64 : goal.returns-then-i-lt64
returns-then-i-lt64 c k =
    bit-with 64 c.args.self.word c.args.i k c.if-i-lt64.true
    ∙ ap (λ (b : Bool). bit c.args.self.word k || b) (sym (and-true (eqb k c.args.i) (ltb c.args.i 64) (lt-ltb c.args.i 64 c.if-i-lt64.true)))
