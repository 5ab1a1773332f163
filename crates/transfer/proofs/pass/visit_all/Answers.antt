use Rattle.std.proofs.Common.{◌≡◌, ℕ, false, ◌∙◌, ap}
use Rattle.std.specs.List.{fold}
use Rattle.bits.specs.Bit.{bit}
use Rattle.bits.specs.Members.{members}
use Rattle.transfer.specs.Contents.{Content, content, writing}
use Rattle.transfer.specs.Orders.{each_upper}
use Rattle.transfer.proofs.Turns.{idle, upper_kept, kept_turns}
use Rattle.transfer.proofs.pass.visit_all.Goals as goal

pub loop-x-init : goal.loop-x-init
unfolding members
loop-x-init g c =
    let W = writing g.S.Store in
    let M = g.R.Reading.held c.args.model.now in
    let s = c.loop-sort.sort in
    let laws = g.met.P.Pass in
    let each = each_upper (g.P.Pass.step W M) s in
    let Settled : Content → Type 0 = λ C. (x y : ℕ) → bit c.unsettled-x-items.result.word x ≡ false → g.P.Pass.settled M C.facts s x y in
    let all = kept_turns Settled each (bit c.unsettled-x-items.result.word)
    (upper_kept Settled (g.P.Pass.step W M) (λ t u v C h x y out. laws.stays W M t u v C s x y (h x y out)) s)
    (λ x C out h. idle (g.P.Pass.step W M s x) C (λ y. laws.idle W M s x y C (h x y out)) 64)
    64 (content g.S.Reading g.S.Store c.loop-sort.store) c.unsettled-x-items.ensures in
    ap (fold (λ C x. each x C) (content g.S.Reading g.S.Store c.loop-sort.store)) c.into_iter-x-iterator.ensures.into_iter_gives ∙ all
