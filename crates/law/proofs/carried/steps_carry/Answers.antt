use Rattle.law.proofs.Carry.{steps_carry_soundness, splits_carry_people, joins_carry_people}
use Rattle.law.proofs.carried.steps_carry.Goals as goal

pub returns : goal.returns
returns c = record { sound = steps_carry_soundness; splits = splits_carry_people; joins = joins_carry_people }
