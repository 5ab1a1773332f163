use Rattle.bits.proofs.Laws.{bit-and}
use Rattle.bits.proofs.Bits.and.Goals as goal

pub returns : goal.returns
returns c k = bit-and c.args.self.word c.args.other.word k
