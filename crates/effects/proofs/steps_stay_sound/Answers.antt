use Rattle.effects.proofs.steps_stay_sound.Goals as goal
use Rattle.effects.proofs.Steps.{steps_stay_sound}

pub returns : goal.returns
returns c = steps_stay_sound
