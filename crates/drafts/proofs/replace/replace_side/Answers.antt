use Rattle.std.proofs.Common.{◌≡◌, ℕ, cond, ◌&&◌, ◌||◌, eqb, ltb, sym, ap, ◌∙◌, arith}
use Rattle.std.proofs.lemmas.Bool.{cond-false, and_right, le-ltb}
use Rattle.bits.specs.Bit.{bit}
use Rattle.board.specs.Holding.{facts_of}
use Rattle.board.specs.OnlyPossible.{only_possible}
use Rattle.model.specs.Facts.{possible}
use Rattle.model.specs.Sides.{has_sort, under_sort}
use Rattle.drafts.proofs.Replaced.{so_far, more, all}
use Rattle.drafts.proofs.replace.replace_side.Goals as goal

pub loop-y-init : goal.loop-y-init
loop-y-init g c s x v = sym (cond-false ((eqb s (has_sort c.args.side) || eqb s (under_sort c.args.side)) && ltb v 0) _ _ (and_right _ (ltb v 0) (le-ltb v 0 (omega arith))))

-- a row that was written, at the sort that was asked for
pub loop-y-preserved : goal.loop-y-preserved
loop-y-preserved g c =
    let k = c.args.side in
    let G = g.R.Reading.held c.args.from.now in
    let y = c.loop-y.y in
    let r1 = c.row-in-loop-y.result.word in
    let r2 = c.row-in-loop-y-2.result.word in
    let f0 = facts_of c.loop-y.board in
    let f1 = facts_of c.set_row-in-loop-y.new.self in
    let f2 = facts_of c.set_row-in-loop-y-2.new.self in
    more k G (facts_of c.set_row.new.self) f0 f1 f2 y (bit r1) (bit r2) (g.met.R.Reading.only_possible c.args.from.now)
    (λ x. c.row-in-loop-y.ensures x ∙ ap (λ (s : ℕ). G s x y) c.has_sort-in-loop-y.ensures)
    (λ x. c.row-in-loop-y-2.ensures x ∙ ap (λ (s : ℕ). G s x y) c.under_sort-in-loop-y.ensures)
    (λ s x v. c.set_row-in-loop-y.ensures s x v ∙ ap (λ (t : ℕ). cond (eqb s t && eqb v y) (possible s x v && bit r1 x) (f0 s x v)) c.has_sort.ensures)
    (λ s x v. c.set_row-in-loop-y-2.ensures s x v ∙ ap (λ (t : ℕ). cond (eqb s t && eqb v y) (possible s x v && bit r2 x) (f1 s x v)) c.under_sort.ensures)
    c.loop-y.invariant

pub returns : goal.returns
returns g c =
    let k = c.args.side in
    let G = g.R.Reading.held c.args.from.now in
    let F = facts_of c.args.board.now in
    let r0 = c.row.result.word in
    let end : c.loop-y.y ≡ 64 = omega arith in
    all k F G (facts_of c.set_row.new.self) (facts_of c.loop-y.board) (bit r0) (only_possible c.args.board.now.rows) (g.met.R.Reading.only_possible c.args.from.now)
    (λ x. c.row.ensures x ∙ ap (λ (s : ℕ). G s x 0) c.stands_sort-2.ensures)
    (λ s x v. c.set_row.ensures s x v ∙ ap (λ (t : ℕ). cond (eqb s t && eqb v 0) (possible s x v && bit r0 x) (F s x v)) c.stands_sort.ensures)
    (λ s x v. c.loop-y.invariant s x v ∙ ap (λ (n : ℕ). so_far k G (facts_of c.set_row.new.self) n s x v) end)
