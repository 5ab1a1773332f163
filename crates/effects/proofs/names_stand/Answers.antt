use Rattle.effects.proofs.names_stand.Goals as goal
use Rattle.effects.proofs.Naming.{join_keeps_names, split_keeps_names}

pub returns : goal.returns
returns c = record { join = join_keeps_names; split = split_keeps_names }
