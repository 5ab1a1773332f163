use Rattle.std.proofs.Common.{sym, ◌∙◌, arith}
use Rattle.list.proofs.Listings.{listed-not}
use Rattle.list.proofs.Places.{listed-is_some}
use Rattle.list.proofs.store.FactListReading.holds.Goals as goal

pub returns-then-is_possible : goal.returns-then-is_possible
returns-then-is_possible c =
    let l = c.args.self.now in
    let f = c.args.fact in
    let within = l.within in
    c.is_some.ensures
    ∙ sym (listed-is_some l.words.now l.used f.sort f.x f.y c.word.result c.place.result (omega arith) (sym c.if-is_possible.ensures) c.word.ensures c.place.ensures)

pub returns-else-is_possible : goal.returns-else-is_possible
returns-else-is_possible c =
    let l = c.args.self.now in
    let f = c.args.fact in
    c.if-is_possible.false ∙ sym (listed-not l.words.now l.used f.sort f.x f.y (sym c.if-is_possible.ensures))
