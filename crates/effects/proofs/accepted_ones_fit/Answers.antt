use Rattle.effects.proofs.Accepted.{accepted_joins, accepted_splits}
use Rattle.effects.proofs.accepted_ones_fit.Goals as goal

pub returns : goal.returns
returns c = record { join = accepted_joins; split = accepted_splits }
