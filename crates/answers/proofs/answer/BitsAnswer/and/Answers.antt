use Rattle.std.proofs.Common.{sym, ◌∙◌}
use Rattle.bits.proofs.Laws.{bit-and}
use Rattle.answers.proofs.Words.{same_set}
use Rattle.answers.proofs.answer.BitsAnswer.and.Goals as goal

pub returns : goal.returns
returns c = same_set _ _ (λ k. c.and.ensures k ∙ sym (bit-and c.args.self.word c.args.other.word k))
