use Rattle.std.proofs.Common.{sym, ◌∙◌}
use Rattle.std.proofs.lemmas.Bool.{and_parts, and_from}
use Rattle.bits.specs.Bit.{bit}
use Rattle.rules.specs.Rules.{rule_tree}
use Rattle.answers.proofs.Standing.{qualified_stand}
use Rattle.answers.proofs.everyone.who.Goals as goal

pub returns : goal.returns
returns g c a =
    let F = g.R.Reading.held c.args.reading.now in
    let found = bit c.read-found.result.word a in
    let standing = bit c.standing.result.word a in (
      λ h. let p = and_parts found standing (sym (c.and.ensures a) ∙ h) in (c.read-found.ensures a (sym (c.standing.ensures a) ∙ p.1)).0 p.0,
      λ q. let stands = qualified_stand F (rule_tree c.args.rule.now) a q in
          c.and.ensures a ∙ and_from found standing ((c.read-found.ensures a stands).1 q) (c.standing.ensures a ∙ stands),
    )
