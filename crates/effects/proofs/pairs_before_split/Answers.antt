use Rattle.effects.proofs.pairs_before_split.Goals as goal
use Rattle.effects.proofs.SplitPairs.{has-back, under_back}
use Rattle.effects.proofs.SplitOnto.{has_onto, under_onto}

pub returns : goal.returns
returns c = record { has = has-back; under = under_back; has_onto = has_onto; under_onto = under_onto }
