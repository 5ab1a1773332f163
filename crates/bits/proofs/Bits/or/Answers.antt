use Rattle.bits.proofs.Laws.{bit-or}
use Rattle.bits.proofs.Bits.or.Goals as goal

pub returns : goal.returns
returns c k = bit-or c.args.self.word c.args.other.word k
