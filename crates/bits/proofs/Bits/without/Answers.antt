use Rattle.std.proofs.Common.{arith}
use Rattle.bits.proofs.Laws.{bit-without, bit_absent}
use Rattle.bits.proofs.Bits.without.Goals as goal

pub returns-then-i-lt64 : goal.returns-then-i-lt64
returns-then-i-lt64 c k = bit-without 64 c.args.self.word c.args.i k (omega arith) c.if-i-lt64.true

pub returns-else-i-lt64 : goal.returns-else-i-lt64
returns-else-i-lt64 c k = bit_absent 64 c.args.self.word c.args.i k (omega arith) c.if-i-lt64.false
