use Rattle.std.proofs.Common.{eqb, ltb}
use Rattle.std.proofs.lemmas.Bool.{lt-ltb}
use Rattle.bits.specs.Bit.{bit}
use Rattle.rules.specs.Edits.{joins}
use Rattle.drafts.specs.Joining.{joined_side}
use Rattle.drafts.specs.Sided.{sided}
use Rattle.drafts.proofs.Rows.{stands-row}
use Rattle.drafts.proofs.joining.JoinInRangeRegrouping.standing.Goals as goal

pub returns : goal.returns
unfolding joined_side
returns g c x =
    let j = c.args.self.now.joining in
    let S = sided (g.R.Reading.held c.args.before.now.reading.now) c.args.before.now.side in
    stands-row (bit c.with.result.word x) (bit c.without_both.result.word x) (bit c.standing.result.word x) (S.stands x) (joins j.first j.second x) (eqb x j.into) (ltb j.into 64)
    (c.with.ensures x) (c.without_both.ensures x) (c.standing.ensures x) (lt-ltb j.into 64 c.args.self.now.into_low)
