use Rattle.std.proofs.Common.{◌≡◌, ℕ, true, set, ap, ◌∙◌, subst, arith}
use Rattle.model.specs.Facts.{possible}
use Rattle.model.specs.declared.fact.Fact.{Fact}
use Rattle.board.specs.Rows.{marked, row_place}
use Rattle.board.proofs.Marks.{not_written, overwritten}
use Rattle.board.proofs.Board.set_row.Goals as goal

pub returns-in-Ok : goal.returns-in-Ok
returns-in-Ok c a b v =
    let rows = c.args.self.now.rows in
    let can : possible c.args.sort 0 c.args.y ≡ true = subst (λ (f : Fact). possible f.sort f.x f.y ≡ true) c.in-Ok.ensures c.in-Ok.lowest.can in
    let at : c.place.result ≡ row_place c.args.sort c.args.y = c.place.ensures.value ∙ ap (λ (f : Fact). row_place f.sort f.y) c.in-Ok.ensures in
    ap (λ (i : ℕ). marked (set rows i c.args.row.word) a b v) at
    ∙ overwritten rows c.args.sort c.args.y c.args.row.word can (omega arith) a b v

pub returns-in_default : goal.returns-in_default
returns-in_default c = not_written c.args.self.now.rows c.args.sort c.args.y c.args.row.word c.in_default.ensures
