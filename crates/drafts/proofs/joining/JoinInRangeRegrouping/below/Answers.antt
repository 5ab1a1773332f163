use Rattle.std.proofs.Common.{Bool, not, ◌&&◌, eqb, ap, ◌∙◌}
use Rattle.bits.specs.Bit.{bit}
use Rattle.rules.specs.Edits.{joins}
use Rattle.drafts.specs.Joining.{joined_side}
use Rattle.drafts.specs.Sided.{sided}
use Rattle.drafts.proofs.Rows.{below_row}
use Rattle.drafts.proofs.joining.JoinInRangeRegrouping.below.Goals as goal

pub returns : goal.returns
unfolding joined_side
returns g c x =
    let j = c.args.self.now.joining in
    let S = sided (g.R.Reading.held c.args.before.now.reading.now) c.args.before.now.side in
    let y = c.args.y in
    let e = j.first in
    let f = j.second in
    below_row (bit c.without.result.word x) (bit c.or.result.word x) (bit c.when-kept.result.word x) (bit c.moved.result.word x) (bit c.when-gained.result.word x)
    (bit c.without_both.result.word x) (bit c.or-either.result.word x)
    (bit c.below.result.word x) (bit c.below.result.word e) (bit c.below.result.word f) (bit c.below-2.result.word x) (bit c.below-3.result.word x)
    (joins e f x) (eqb x j.into) (eqb x y) (joins e f y) (eqb y j.into)
    (S.under x y) (S.under e y) (S.under f y) (S.under x e) (S.under x f)
    (c.without.ensures x) (c.or.ensures x)
    (c.when-kept.ensures x ∙ ap (λ (b : Bool). not b && bit c.moved.result.word x) c.joins.ensures)
    (c.moved.ensures x) (c.when-gained.ensures x) (c.without_both.ensures x) (c.or-either.ensures x)
    (c.below.ensures x) (c.below.ensures e) (c.below.ensures f) (c.below-2.ensures x) (c.below-3.ensures x)
