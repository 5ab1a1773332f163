use Rattle.effects.proofs.pairs_after_join.Goals as goal
use Rattle.effects.proofs.JoinPairs.{joined-has, joined-under}

pub returns : goal.returns
returns c = record { has = joined-has; under = joined-under }
