use Rattle.std.proofs.Common.{eqb, ltb}
use Rattle.std.proofs.lemmas.Bool.{lt-ltb}
use Rattle.bits.specs.Bit.{bit}
use Rattle.drafts.specs.Sided.{sided}
use Rattle.drafts.specs.Splitting.{parted_side}
use Rattle.drafts.proofs.Rows.{parts_stand}
use Rattle.drafts.proofs.parting.SplitInRangeRegrouping.standing.Goals as goal

pub returns : goal.returns
unfolding parted_side
returns g c x =
    let s = c.args.self.now in
    let d = s.splitting in
    let S = sided (g.R.Reading.held c.args.before.now.reading.now) c.args.before.now.side in
    parts_stand (bit c.with-2.result.word x) (bit c.with.result.word x) (bit c.without.result.word x) (bit c.standing.result.word x)
    (eqb x d.whole) (eqb x d.part1) (eqb x d.part2) (ltb d.part1 64) (ltb d.part2 64) (S.stands x)
    (c.with-2.ensures x) (c.with.ensures x) (c.without.ensures x) (c.standing.ensures x)
    (lt-ltb d.part1 64 s.part1_low) (lt-ltb d.part2 64 s.part2_low)
