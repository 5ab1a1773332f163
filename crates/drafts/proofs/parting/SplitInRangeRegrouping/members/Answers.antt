use Rattle.std.proofs.Common.{eqb}
use Rattle.bits.specs.Bit.{bit}
use Rattle.drafts.specs.Sided.{sided}
use Rattle.drafts.specs.Splitting.{parted_side}
use Rattle.drafts.proofs.Rows.{parts_members}
use Rattle.drafts.proofs.parting.SplitInRangeRegrouping.members.Goals as goal

pub returns : goal.returns
unfolding parted_side
returns g c a =
    let s = c.args.self.now in
    let S = sided (g.R.Reading.held c.args.before.now.reading.now) c.args.before.now.side in
    let y = c.args.y in
    parts_members (bit c.or-2.result.word a) (bit c.or.result.word a) (bit c.when-first.result.word a) (bit c.when-second.result.word a) (bit c.when-kept.result.word a)
    (bit c.members.result.word a) (eqb y s.splitting.whole) (eqb y s.splitting.part1) (eqb y s.splitting.part2)
    (bit s.share1.actors.word a) (bit s.share2.actors.word a) (S.has a y)
    (c.or-2.ensures a) (c.or.ensures a) (c.when-first.ensures a) (c.when-second.ensures a) (c.when-kept.ensures a) (c.members.ensures a)
