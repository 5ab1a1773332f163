use Rattle.std.proofs.Common.{arith}
use Rattle.bits.proofs.Laws.{bit-minus}
use Rattle.bits.proofs.Bits.minus.Goals as goal

pub returns : goal.returns
returns c k = bit-minus 64 c.args.self.word c.args.other.word k (omega arith) (omega arith)
