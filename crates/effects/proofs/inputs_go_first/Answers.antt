use Rattle.effects.proofs.First.{inputs_go_first}
use Rattle.effects.proofs.inputs_go_first.Goals as goal

pub returns : goal.returns
returns c = inputs_go_first
