use Rattle.std.proofs.Common.{true, false, ap, ◌∙◌}
use Rattle.board.specs.Holding.{facts_of}
use Rattle.model.specs.Facts.{placed}
use Rattle.rules.specs.declared.book.Book.{Book}
use Rattle.drafts.specs.Pairs.{new_pair, old_pair}
use Rattle.drafts.specs.Slots.{slots_of}
use Rattle.drafts.proofs.PlacedRows.{placed_as, placed_over}
use Rattle.drafts.proofs.Taken.{is_taken}
use Rattle.drafts.proofs.draft.Draft.relink.Goals as goal

pub returns-clause-stepped : goal.returns-clause-stepped
returns-clause-stepped c circle d =
    let F = facts_of c.args.self.now.board in
    let G = facts_of c.write.new.self.board in
    let old = old_pair c.args.step in
    let new = new_pair c.args.step in
    let checked = c.in_ok-old.ensures circle d in
    is_taken _ _ _ _ checked.0
    (λ s x y.
    c.write-2.ensures.facts s x y
    ∙ placed_as G c.into-2.result.fact new (c.into-2.ensures ∙ checked.1.1) true s x y
    ∙ placed_over G (placed F old.sort old.x old.y false)
    (λ a b e. c.write.ensures.facts a b e ∙ placed_as F c.into.result.fact old (c.into.ensures ∙ checked.1.0) false a b e) new.sort new.x new.y true s x y)
    (λ i. ap (λ (b : Book). slots_of b i) (c.write-2.ensures.book ∙ c.write.ensures.book))
