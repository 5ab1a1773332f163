use Rattle.std.proofs.Common.{◌≡◌, ℕ, Bool, cond, eqb, ltb, get_or, set, sym, ap, ◌∙◌, subst, arith}
use Rattle.std.proofs.lemmas.Bool.{lt-ltb}
use Rattle.bits.specs.Bit.{bit}
use Rattle.model.proofs.Possible.{parts}
use Rattle.board.specs.Rows.{marked, row_place}
use Rattle.board.proofs.Marks.{write, with-cond, without-cond}
use Rattle.board.proofs.Board.write.Goals as goal
use Rattle.board.proofs.Board.write.Goals.{then-held, else-held}

pub returns : goal.returns
returns c =
    let rows = c.args.self.now.rows in
    let f = c.args.fact.fact in
    let i = c.place-i.result in
    let p = parts f.sort f.x f.y c.args.fact.can in
    let at : i ≡ row_place f.sort f.y = c.place-i.ensures.value in
    let new : (k : ℕ) → bit c.if-held.new.word k ≡ cond (eqb k f.x) c.args.held (bit (get_or rows i 0) k) =
    λ k. elim c.if-held.branch [
      | then-held w ↦
          ap (λ b. bit b.word k) w.new-is ∙ w.with-new.ensures k ∙ with-cond (bit (get_or rows i 0) k) (eqb k f.x) (ltb f.x 64) (lt-ltb f.x 64 p.lower)
          ∙ ap (λ (v : Bool). cond (eqb k f.x) v (bit (get_or rows i 0) k)) (sym w.if-held.true)
      | else-held w ↦
          ap (λ b. bit b.word k) w.new-is ∙ w.without-new.ensures k ∙ without-cond (bit (get_or rows i 0) k) (eqb k f.x)
          ∙ ap (λ (v : Bool). cond (eqb k f.x) v (bit (get_or rows i 0) k)) (sym w.if-held.false)
    ] in
    ap (λ (j : ℕ). marked (set rows j c.if-held.new.word)) at
    ∙ write rows f.sort f.x f.y c.args.held c.if-held.new.word c.args.fact.can (omega arith)
    (subst (λ (j : ℕ). (k : ℕ) → bit c.if-held.new.word k ≡ cond (eqb k f.x) c.args.held (bit (get_or rows j 0) k)) at new)
