use Rattle.std.proofs.Common.{false}
use Rattle.model.proofs.Sets.{placed-idle}
use Rattle.board.specs.Rows.{marked}
use Rattle.board.proofs.Marks.{not_at}
use Rattle.board.proofs.BoardStore.drop_fact.Goals as goal

pub returns-in_default-clause-set : goal.returns-in_default-clause-set
returns-in_default-clause-set c =
    let rows = c.args.self.now.rows in
    let f = c.args.fact in
    placed-idle (marked rows) f.sort f.x f.y false (not_at rows f.sort f.x f.y c.in_default.ensures)
