use Rattle.std.proofs.Common.{◌≡◌, length}
use Rattle.rules.specs.Filled.{filled_left}
use Rattle.rules.proofs.filled.FilledIterator.next.Given as goal

-- only slots that hold no rule were passed over
abbrev pub invariant-loop-held : goal.invariant-loop-held
invariant-loop-held l = filled_left l.self ≡ filled_left l.fn.self

abbrev pub decreases-loop-held : goal.decreases-loop-held
decreases-loop-held l = length l.self.rest.now
