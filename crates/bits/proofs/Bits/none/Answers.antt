use Rattle.bits.proofs.Laws.{bit-none}
use Rattle.bits.proofs.Bits.none.Goals as goal

pub returns : goal.returns
returns c = bit-none
