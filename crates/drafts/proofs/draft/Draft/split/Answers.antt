use Rattle.std.proofs.Common.{rules, ◌∙◌}
use Rattle.board.specs.Holding.{facts_of}
use Rattle.drafts.specs.Slots.{slots_of}
use Rattle.drafts.proofs.SplitParts.{split_facts, split_rules}
use Rattle.drafts.proofs.Taken.{is_taken}
use Rattle.drafts.proofs.draft.Draft.split.Goals as goal

pub returns-in_err-split-clause-stepped : goal.returns-in_err-split-clause-stepped
returns-in_err-split-clause-stepped c shares long d l =
    let v = c.in_err-split.ensures shares long d l in
    search rules

pub returns-clause-stepped : goal.returns-clause-stepped
returns-clause-stepped c shares long d l =
    let D = c.args.step in
    let s = c.in_ok-split.split in
    let F = facts_of c.args.self.now.board in
    let B = slots_of c.args.self.now.book in
    let checked = c.in_ok-split.ensures shares long d l in
    let of = checked.1.0 in
    is_taken _ _ _ _ checked.0
    (λ a x y. c.regroup.ensures.facts a x y ∙ split_facts D s of F a x y)
    (λ i. c.regroup.ensures.rules i ∙ split_rules D s of B checked.1.1 i)
