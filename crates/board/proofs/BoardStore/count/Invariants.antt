use Rattle.std.proofs.Common.{◌≡◌, get_or}
use Rattle.bits.specs.Bit.{bit}
use Rattle.bits.specs.Total.{total, tally}
use Rattle.board.proofs.BoardStore.count.Given as goal

abbrev pub invariant-loop-row : goal.invariant-loop-row
invariant-loop-row l = l.n ≡ total (λ i. tally (bit (get_or l.self.rows i 0)) 64) l.row-index
