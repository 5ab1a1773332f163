use Rattle.std.proofs.Common.{ℕ, Bool, ◌&&◌, ◌||◌, eqb, ltb, sym, ap, ◌∙◌, arith}
use Rattle.bits.specs.Bit.{bit}
use Rattle.model.proofs.Gathered.{hit, miss}
use Rattle.model.proofs.reading.Reading.row.Goals as goal
use Rattle.model.proofs.reading.Reading.row.Goals.{then-holds, else-holds}

pub loop-x-preserved : goal.loop-x-preserved
loop-x-preserved g c =
    let x = c.loop-x.x in
    let S : ℕ → Bool = λ k. g.Self.Reading.held c.args.self.now c.args.sort k c.args.y in
    λ k. elim c.if-holds.branch [
      | then-holds w ↦
          ap (λ b. bit b.word k) w.row-is ∙ w.with-row.ensures k ∙ ap (λ (b : Bool). b || (eqb k x && ltb x 64)) (c.loop-x.invariant k)
          ∙ hit S x k (omega arith) (sym c.holds.ensures ∙ w.if-holds.true)
      | else-holds w ↦
          ap (λ b. bit b.word k) w.row-is ∙ c.loop-x.invariant k ∙ miss S x k (sym c.holds.ensures ∙ w.if-holds.false)
    ]
