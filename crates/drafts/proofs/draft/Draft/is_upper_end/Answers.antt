use Rattle.std.proofs.Common.{◌≡◌, ℕ, sym, ap, ◌∙◌, ⊎_elim}
use Rattle.std.proofs.lemmas.Bool.{not-true, not_from_false, both_ways, cases_Bool}
use Rattle.bits.specs.Bit.{bit}
use Rattle.board.specs.Holding.{facts_of}
use Rattle.drafts.specs.Pairs.{pair_number}
use Rattle.bits.proofs.Laws.{some_in}
use Rattle.drafts.proofs.draft.Draft.is_upper_end.Goals as goal

pub returns : goal.returns
returns c =
    let w = c.row.result.word in
    let row : (x : ℕ) → bit w x ≡ facts_of c.args.self.now.board (pair_number c.args.sort) x c.args.number =
    λ x. c.row.ensures x ∙ ap (λ (s : ℕ). facts_of c.args.self.now.board s x c.args.number) c.number.ensures in (
      λ h. let s = some_in w (λ none. both_ways c.is_empty.result (not-true c.is_empty.result h) (c.is_empty.ensures.1 none)) in (s.0, sym (row s.0) ∙ s.1),
      λ p. not_from_false c.is_empty.result (⊎_elim (λ e. absurd (both_ways (bit w p.0) (c.is_empty.ensures.0 e p.0) (row p.0 ∙ p.1))) (λ e. e) (cases_Bool c.is_empty.result)),
    )
