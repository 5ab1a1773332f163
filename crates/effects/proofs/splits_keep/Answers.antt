use Rattle.effects.proofs.splits_keep.Goals as goal
use Rattle.effects.proofs.SamePeople.{split_keeps_answers}

pub returns : goal.returns
returns c = split_keeps_answers
