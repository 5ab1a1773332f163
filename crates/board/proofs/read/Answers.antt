use Rattle.std.proofs.Common.{◌≡◌, ℕ, true, get_or, sym, ap, ◌∙◌, subst}
use Rattle.bits.specs.Bit.{bit}
use Rattle.model.specs.Facts.{possible}
use Rattle.model.specs.declared.fact.Fact.{Fact}
use Rattle.board.specs.Rows.{row_place}
use Rattle.board.proofs.Marks.{row_at, row-none}
use Rattle.board.proofs.read.Goals as goal

pub returns-in-Ok : goal.returns-in-Ok
returns-in-Ok c x =
    let rows = c.args.rows.now in
    let lowest = c.in-Ok.lowest.fact in
    let can : possible c.args.sort 0 c.args.y ≡ true = subst (λ (f : Fact). possible f.sort f.x f.y ≡ true) c.in-Ok.ensures c.in-Ok.lowest.can in
    let at : c.place.result ≡ row_place c.args.sort c.args.y = c.place.ensures.value ∙ ap (λ (f : Fact). row_place f.sort f.y) c.in-Ok.ensures in
    ap (λ (i : ℕ). bit (get_or rows i 0) x) at ∙ row_at rows c.args.sort c.args.y can (c.fits-rows (row_place c.args.sort c.args.y)) x

pub returns-in-Err : goal.returns-in-Err
returns-in-Err c x = c.none.ensures x ∙ sym (row-none c.args.rows.now c.args.sort c.args.y c.in-Err.ensures x)
