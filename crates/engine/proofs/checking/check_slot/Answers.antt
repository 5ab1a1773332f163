use Rattle.std.proofs.Common.{ap, ◌∙◌, rules}
use Rattle.model.specs.Facts.{Facts}
use Rattle.rules.specs.Rules.{rule_tree}
use Rattle.rules.specs.declared.rule.Rule.{Rule}
use Rattle.rules.proofs.Accepts.{rules_are_trees}
use Rattle.answers.specs.Refuted.{Refutes}
use Rattle.answers.specs.Validity.{first_absent}
use Rattle.answers.specs.declared.validity.Invalid.{Invalid}
use Rattle.answers.specs.declared.validity.Invalid.TheVariants.{Absent, Nobody}
use Rattle.board.specs.Holding.{facts_of}
use Rattle.drafts.specs.Slots.{tree_in}
use Rattle.engine.specs.Checking.{NotValid}
use Rattle.engine.proofs.checking.check_slot.Goals as goal

-- what refutes a rule refutes its tree
not_valid : (F : Facts) (r : Rule) (why : Invalid) → Refutes F r why → NotValid F (rule_tree r) why
not_valid F r (Absent i) h = ap (first_absent F 0) (rules_are_trees r).list ∙ h
not_valid F r Nobody h = h

pub returns-in_err-validity : goal.returns-in_err-validity
returns-in_err-validity c =
    let r = c.in-Some.rule.now in
    let refuted = not_valid (facts_of c.args.draft.now.board) r _ c.in_err-validity.ensures in
    let found = ap tree_in c.in-Some.ensures in
    search rules
