use Rattle.std.proofs.Common.{sym, ◌∙◌}
use Rattle.answers.specs.Outside.{bit_outside}
use Rattle.answers.proofs.Words.{same_set}
use Rattle.answers.proofs.answer.BitsAnswer.not.Goals as goal

pub returns : goal.returns
returns c = same_set _ _ (λ k. c.minus.ensures k ∙ sym (bit_outside c.args.standing.word c.args.self.word k))
