use Rattle.std.proofs.Common.{◌≡◌, ℕ, Bool, true, List, Decides, length, sym, ◌∙◌, subst}
use Rattle.std.proofs.lemmas.List.{map-id}
use Rattle.std.proofs.lemmas.Iterator.Consumers.{YieldsList-from_first, YieldsList-turn, YieldsList-end}
use Rattle.bits.specs.Bit.{bit}
use Rattle.bits.specs.Members.{members}
use Rattle.model.specs.Chains.{Below}
use Rattle.answers.specs.Qualify.{Reaches}
use Rattle.answers.proofs.Reached.{Gathered, gathered_more, gathered_all}
use Rattle.answers.proofs.Members.{in_set}
use Rattle.answers.proofs.everyone.Everyone.members.Goals as goal

pub loop-below-preserved : goal.loop-below-preserved
loop-below-preserved g c =
    let F = g.R.Reading.held c.args.self.now.reading.now in
    let k = c.args.side in
    let w = c.all_below-below-items.result.word in
    let m = c.in-Some.below in
    let came = c.loop-below.yielded in
    let t = YieldsList-turn (YieldsList-from_first (λ x. x) (λ s. members s.rest.word) (members w) c.into_iter-below-iterator.ensures.into_iter_gives)
    came c.loop-below.below-iterator c.loop-below.yielded_by _ c.next.new.self m c.in-Some.is c.next.ensures.steps in
    let under : Below F k m c.args.number = (c.all_below-below-items.ensures m).0 (subst (λ (x : ℕ). bit w x ≡ true) (sym t.1) (in_set w (length came) m t.0)) in
    gathered_more F k c.args.number (bit c.loop-below.found.word) (bit c.row.result.word) (bit c.or-found.result.word) came m c.has_sort-in-loop-below.result under
    c.has_sort-in-loop-below.ensures c.row.ensures c.or-found.ensures c.loop-below.invariant

pub returns-in-None : goal.returns-in-None
returns-in-None g c =
    let F = g.R.Reading.held c.args.self.now.reading.now in
    let k = c.args.side in
    let n = c.args.number in
    let found = bit c.loop-below.found.word in
    let w = c.all_below-below-items.result.word in
    let came = c.loop-below.yielded in
    let t = YieldsList-end (YieldsList-from_first (λ x. x) (λ s. members s.rest.word) (members w) c.into_iter-below-iterator.ensures.into_iter_gives)
    came c.loop-below.below-iterator c.loop-below.yielded_by _ c.next.new.self c.in-None.is c.next.ensures.steps in
    λ a. subst (λ (b : Bool). Decides (found a) (Reaches F k n b a)) (sym c.if-plus.true)
    (gathered_all F k n (g.met.R.Reading.only_possible c.args.self.now.reading.now) w c.all_below-below-items.ensures found
    (subst (λ (xs : List ℕ). Gathered F k n found xs) (sym (map-id came) ∙ t.0) c.loop-below.invariant) a)
