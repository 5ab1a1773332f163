use Rattle.std.proofs.Common.{ℕ, List, sym, subst}
use Rattle.list.specs.Words.{Free}
use Rattle.list.proofs.Listings.{listed-none}
use Rattle.list.proofs.Moves.{none-sound, cleared-free}
use Rattle.list.proofs.list.FactList.new.Goals as goal

pub invariant_of-result : goal.invariant_of-result
invariant_of-result c =
    let s = none-sound c.clear.new.words (subst (λ (ws : List ℕ). Free ws 0) (sym c.clear.ensures) (cleared-free c.args.words.now)) in
    record { within = s.within; apart = s.apart; facts = s.facts; rest = s.rest; counted = s.counted }

pub returns-clause-none : goal.returns-clause-none
returns-clause-none c = listed-none c.clear.new.words
