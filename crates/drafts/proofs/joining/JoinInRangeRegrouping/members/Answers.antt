use Rattle.std.proofs.Common.{Bool, not, ◌&&◌, eqb, ap, ◌∙◌}
use Rattle.bits.specs.Bit.{bit}
use Rattle.rules.specs.Edits.{joins}
use Rattle.drafts.specs.Joining.{joined_side}
use Rattle.drafts.specs.Sided.{sided}
use Rattle.drafts.proofs.Rows.{members-row}
use Rattle.drafts.proofs.joining.JoinInRangeRegrouping.members.Goals as goal

pub returns : goal.returns
unfolding joined_side
returns g c a =
    let j = c.args.self.now.joining in
    let S = sided (g.R.Reading.held c.args.before.now.reading.now) c.args.before.now.side in
    let y = c.args.y in
    members-row (bit c.or.result.word a) (bit c.when-kept.result.word a) (bit c.when.result.word a) (bit c.or-either.result.word a)
    (bit c.members.result.word a) (bit c.members-2.result.word a) (bit c.members-3.result.word a)
    (joins j.first j.second y) (eqb y j.into) (S.has a y) (S.has a j.first) (S.has a j.second)
    (c.or.ensures a)
    (c.when-kept.ensures a ∙ ap (λ (b : Bool). not b && bit c.members.result.word a) c.joins.ensures)
    (c.when.ensures a) (c.or-either.ensures a) (c.members.ensures a) (c.members-2.ensures a) (c.members-3.ensures a)
