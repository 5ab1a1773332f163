use Rattle.std.proofs.Common.{◌∙◌}
use Rattle.std.proofs.lemmas.Bool.{both_ways}
use Rattle.rules.specs.Rules.{rule_tree}
use Rattle.answers.proofs.Standing.{qualified_stand}
use Rattle.answers.proofs.one.may.Goals as goal

pub returns-else-stands : goal.returns-else-stands
returns-else-stands g c =
    let F = g.R.Reading.held c.args.reading.now in (
      λ h. absurd (both_ways c.stands.result c.if-stands.false h),
      λ q. c.stands.ensures ∙ qualified_stand F (rule_tree c.args.rule.now) c.args.actor q,
    )
