use Rattle.std.proofs.Common.{rules, ℕ, Option, ap, ◌∙◌, subst}
use Rattle.rules.specs.declared.change.Splitting.{Splitting}
use Rattle.drafts.specs.declared.refusal.Refusal.{Refusal}
use Rattle.drafts.specs.Grounds.{first_of, long_refusal, side_of_kind}
use Rattle.drafts.specs.Parts.{parts_of}
use Rattle.drafts.specs.Shares.{LowestLong, parts_in}
use Rattle.drafts.specs.Slots.{slots_of}
use Rattle.drafts.proofs.Longest.{lowest-same, lowest_of}
use Rattle.drafts.proofs.draft.Draft.may_split.Goals as goal

pub returns-in_err-split : goal.returns-in_err-split
returns-in_err-split c shares long d l =
    let v = ap (λ (v : Option Refusal). first_of v (long_refusal long)) (c.in_err-split.ensures shares d) in
    search rules

pub returns-in-Some : goal.returns-in-Some
returns-in-Some c shares long d l =
    let D = c.args.step in
    let s = c.in_ok-split.split in
    let B = slots_of c.args.self.now.book in
    let checked = c.in_ok-split.ensures shares d in
    let same = lowest-same (side_of_kind D.kind) (parts_in D) B long c.long_slot.result l
    (lowest_of s.splitting.side (side_of_kind D.kind) (parts_of s) (parts_in D) B c.long_slot.result (ap (λ (t : Splitting). t.side) checked.1.0) checked.1.1 c.long_slot.ensures) in
    ap (λ (v : Option Refusal). first_of v (long_refusal long)) checked.0 ∙ ap long_refusal (same ∙ c.in-Some.is)

pub returns-in-None : goal.returns-in-None
returns-in-None c shares long d l =
    let D = c.args.step in
    let s = c.in_ok-split.split in
    let B = slots_of c.args.self.now.book in
    let checked = c.in_ok-split.ensures shares d in
    let lowest = lowest_of s.splitting.side (side_of_kind D.kind) (parts_of s) (parts_in D) B c.long_slot.result (ap (λ (t : Splitting). t.side) checked.1.0) checked.1.1 c.long_slot.ensures in
    let same = lowest-same (side_of_kind D.kind) (parts_in D) B long c.long_slot.result l lowest in (
      ap (λ (v : Option Refusal). first_of v (long_refusal long)) checked.0 ∙ ap long_refusal (same ∙ c.in-None.is),
      (checked.1, subst (λ (r : Option ℕ). LowestLong (side_of_kind D.kind) (parts_in D) B r) c.in-None.is lowest),
    )
