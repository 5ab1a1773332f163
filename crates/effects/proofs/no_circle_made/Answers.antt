use Rattle.effects.proofs.no_circle_made.Goals as goal
use Rattle.effects.proofs.Sound.{join_makes_no_circle, split_makes_no_circle}

pub returns : goal.returns
returns c = record { join = join_makes_no_circle; split = split_makes_no_circle }
