use Rattle.std.proofs.Common.{eqb, ltb, ◌∙◌}
use Rattle.std.proofs.lemmas.Bool.{lt-ltb}
use Rattle.bits.specs.Bit.{bit}
use Rattle.drafts.specs.Sided.{sided}
use Rattle.drafts.specs.Splitting.{parted_side}
use Rattle.drafts.proofs.Rows.{parts_below}
use Rattle.drafts.proofs.parting.SplitInRangeRegrouping.below.Goals as goal

pub returns : goal.returns
unfolding parted_side
returns g c x =
    let s = c.args.self.now in
    let d = s.splitting in
    let S = sided (g.R.Reading.held c.args.before.now.reading.now) c.args.before.now.side in
    let y = c.args.y in
    let e = d.whole in
    parts_below (bit c.or-3.result.word x) (bit c.or-2.result.word x) (bit c.or.result.word x) (bit c.when-parts.result.word x)
    (bit c.with-2.result.word x) (bit c.with.result.word x) (bit c.none.result.word x)
    (bit c.when-first.result.word x) (bit c.when-second.result.word x) (bit c.when-kept.result.word x) (bit c.without.result.word x)
    (bit c.below-row.result.word x) c.has.result (eqb x e) (eqb x d.part1) (eqb x d.part2) (ltb d.part1 64) (ltb d.part2 64)
    (eqb y e) (eqb y d.part1) (eqb y d.part2) (bit s.share1.below.word x) (bit s.share2.below.word x) (S.under x y) (S.under e y)
    (c.or-3.ensures x) (c.or-2.ensures x) (c.or.ensures x) (c.when-parts.ensures x) (c.with-2.ensures x) (c.with.ensures x) (c.none.ensures x)
    (lt-ltb d.part1 64 s.part1_low) (lt-ltb d.part2 64 s.part2_low)
    (c.when-first.ensures x) (c.when-second.ensures x) (c.when-kept.ensures x) (c.without.ensures x) (c.below-row.ensures x) (c.has.ensures ∙ c.below-row.ensures e)
