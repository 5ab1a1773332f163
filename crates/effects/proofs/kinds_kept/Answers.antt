use Rattle.effects.proofs.kinds_kept.Goals as goal
use Rattle.effects.proofs.Naming.{join_keeps_kind, split_keeps_kind}

pub returns : goal.returns
returns c = record { join = join_keeps_kind; split = split_keeps_kind }
