use Rattle.effects.proofs.ends_stand.Goals as goal
use Rattle.effects.proofs.Sound.{join_keeps_ends, split_keeps_ends}

pub returns : goal.returns
returns c = record { join = join_keeps_ends; split = split_keeps_ends }
