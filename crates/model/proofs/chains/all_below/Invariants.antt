use Rattle.std.proofs.Common.{◌≡◌, ℕ, true, not}
use Rattle.bits.specs.Bit.{bit}
use Rattle.bits.specs.Total.{tally}
use Rattle.model.specs.Chains.{Below}
use Rattle.model.specs.Sides.{under}
use Rattle.model.proofs.chains.all_below.Given as goal

-- What is found is below the top. What is directly below the top, or below one that is done, is found.
abbrev pub invariant-loop-y : goal.invariant-loop-y
invariant-loop-y g l =
    ((x : ℕ) → bit l.found.word x ≡ true → Below (g.R.Reading.held l.reading) l.side x l.top)
    × ((x : ℕ) → under (g.R.Reading.held l.reading) l.side x l.top ≡ true → bit l.found.word x ≡ true)
    × ((x m : ℕ) → under (g.R.Reading.held l.reading) l.side x m ≡ true → bit l.done.word m ≡ true → bit l.found.word x ≡ true)

-- how many are not done yet
abbrev pub decreases-loop-y : goal.decreases-loop-y
decreases-loop-y g l = tally (λ k. not (bit l.done.word k)) 64
