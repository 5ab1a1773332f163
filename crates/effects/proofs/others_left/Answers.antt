use Rattle.effects.proofs.others_left.Goals as goal
use Rattle.effects.proofs.Others.{join_leaves, split_leaves}

pub returns : goal.returns
returns c = record { join = join_leaves; split = split_leaves }
