use Rattle.effects.proofs.joins_grow.Goals as goal
use Rattle.effects.proofs.Growth.{join_grows}

pub returns : goal.returns
returns c = join_grows
