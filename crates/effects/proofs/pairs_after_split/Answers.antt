use Rattle.effects.proofs.pairs_after_split.Goals as goal
use Rattle.effects.proofs.SplitPairs.{parted-has, parted-under}

pub returns : goal.returns
returns c = record { has = parted-has; under = parted-under }
