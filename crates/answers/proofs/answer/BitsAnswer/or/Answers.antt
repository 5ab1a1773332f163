use Rattle.std.proofs.Common.{sym, ◌∙◌}
use Rattle.bits.proofs.Laws.{bit-or}
use Rattle.answers.proofs.Words.{same_set}
use Rattle.answers.proofs.answer.BitsAnswer.or.Goals as goal

pub returns : goal.returns
returns c = same_set _ _ (λ k. c.or.ensures k ∙ sym (bit-or c.args.self.word c.args.other.word k))
