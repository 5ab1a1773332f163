use Rattle.std.proofs.Common.{◌≡◌, true, sym, subst}
use Rattle.model.specs.Facts.{possible}
use Rattle.model.specs.declared.fact.Fact.{Fact}
use Rattle.board.specs.Rows.{marked}
use Rattle.board.proofs.Marks.{takes-possible}
use Rattle.board.proofs.BoardStore.put.Goals as goal

pub returns-clause-answer : goal.returns-clause-answer
returns-clause-answer c =
    let f = c.args.fact in
    sym (takes-possible (marked c.args.self.now.rows) f.sort f.x f.y
    (subst (λ (p : Fact). possible p.sort p.x p.y ≡ true) c.in-Ok.ensures c.in-Ok.fact.can))
