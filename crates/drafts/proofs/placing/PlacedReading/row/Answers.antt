use Rattle.std.proofs.Common.{Bool, cond, eqb, ltb, sym, ap, ◌∙◌}
use Rattle.std.proofs.lemmas.Bool.{lt-ltb}
use Rattle.bits.specs.Bit.{bit}
use Rattle.model.proofs.Possible.{parts}
use Rattle.drafts.proofs.PlacedRows.{other_row, own_row, put_in, take_out}
use Rattle.drafts.proofs.placing.PlacedReading.row.Goals as goal

pub returns-then-sort-placed : goal.returns-then-sort-placed
returns-then-sort-placed g c x =
    let p = c.args.self.now in
    let f = p.fact.fact in
    c.row-row.ensures x ∙ other_row (g.R.Reading.held p.reading.now) f.sort f.x f.y p.held c.args.sort x c.args.y (λ es _. c.if-sort-placed.true es)

pub returns-then-y-placed : goal.returns-then-y-placed
returns-then-y-placed g c x =
    let p = c.args.self.now in
    let f = p.fact.fact in
    c.row-row.ensures x ∙ other_row (g.R.Reading.held p.reading.now) f.sort f.x f.y p.held c.args.sort x c.args.y (λ _ ey. c.if-y-placed.true ey)

pub returns-then-self : goal.returns-then-self
returns-then-self g c x =
    let p = c.args.self.now in
    let f = p.fact.fact in
    c.with.ensures x
    ∙ put_in (bit c.row-row.result.word x) (eqb x f.x) (ltb f.x 64) (lt-ltb f.x 64 (parts f.sort f.x f.y p.fact.can).lower)
    ∙ ap (λ (b : Bool). cond (eqb x f.x) b (bit c.row-row.result.word x)) (sym c.if-self.true)
    ∙ ap (cond (eqb x f.x) p.held) (c.row-row.ensures x)
    ∙ sym (own_row (g.R.Reading.held p.reading.now) f.sort f.x f.y p.held c.args.sort x c.args.y c.if-sort-placed.false c.if-y-placed.false)

pub returns-else-self : goal.returns-else-self
returns-else-self g c x =
    let p = c.args.self.now in
    let f = p.fact.fact in
    c.without.ensures x
    ∙ take_out (bit c.row-row.result.word x) (eqb x f.x)
    ∙ ap (λ (b : Bool). cond (eqb x f.x) b (bit c.row-row.result.word x)) (sym c.if-self.false)
    ∙ ap (cond (eqb x f.x) p.held) (c.row-row.ensures x)
    ∙ sym (own_row (g.R.Reading.held p.reading.now) f.sort f.x f.y p.held c.args.sort x c.args.y c.if-sort-placed.false c.if-y-placed.false)
