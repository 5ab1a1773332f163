use Rattle.std.proofs.Common.{◌≡◌, true, sym, ap, ◌∙◌}
use Rattle.std.proofs.lemmas.Bool.{cond-true}
use Rattle.model.specs.Facts.{Facts, placed}
use Rattle.board.specs.Holding.{facts_of}
use Rattle.board.proofs.Marks.{takes-possible}
use Rattle.drafts.proofs.draft.Draft.write.Goals as goal

pub returns-then-held-clause-facts : goal.returns-then-held-clause-facts
returns-then-held-clause-facts c s x y =
    let F = facts_of c.args.self.now.board in
    let f = c.args.fact.fact in
    let taken : c.put.result ≡ true = c.put.ensures.answer ∙ takes-possible F f.sort f.x f.y c.args.fact.can in
    ap (λ (S : Facts). S s x y)
    (c.put.ensures.set ∙ cond-true c.put.result (placed F f.sort f.x f.y true) F taken ∙ ap (placed F f.sort f.x f.y) (sym c.if-held.true))
