use Rattle.std.proofs.Common.{rules, ◌≡◌, ◌<◌, ◌∷◌, arith}
use Rattle.bits.specs.Bit.{bit}
use Rattle.bits.specs.Members.{members}
use Rattle.bits.proofs.Ascending.{first_kept, none_kept}
use Rattle.bits.proofs.Laws.{bit_below}
use Rattle.bits.proofs.MembersIterator.next.Goals as goal

-- the lowest number comes first, then those of the set without it
step : (c : goal.After-self-1) → members c.args.self.now.rest.word ≡ c.in_ok-lowest.lowest ∷ members c.without-self.result.word
unfolding members
step c =
    let w = c.args.self.now.rest.word in
    let low = c.in_ok-lowest.ensures in
    let l : c.in_ok-lowest.lowest < 64 = bit_below w 64 c.in_ok-lowest.lowest c.args.self.now.fits low.0 in
    first_kept (bit w) (bit c.without-self.result.word) c.in_ok-lowest.lowest 0 64 (omega arith) (omega arith) low.0 low.1 c.without-self.ensures

pub returns-clause-steps : goal.returns-clause-steps
returns-clause-steps c = step c

pub returns-clause-goes : goal.returns-clause-goes
returns-clause-goes c = let s = step c in search rules

pub returns-in_err-lowest-clause-steps : goal.returns-in_err-lowest-clause-steps
unfolding members
returns-in_err-lowest-clause-steps c = let n = none_kept (bit c.args.self.now.rest.word) 0 64 c.in_err-lowest.ensures in search rules
