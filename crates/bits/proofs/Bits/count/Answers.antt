use Rattle.std.proofs.Common.{arith}
use Rattle.bits.proofs.Ones.{ones_tally}
use Rattle.bits.proofs.Bits.count.Goals as goal

pub returns : goal.returns
returns c = ones_tally 64 c.args.self.word (omega arith)
