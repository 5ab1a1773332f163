use Rattle.std.proofs.Common.{◌≡◌, ◌≤◌, not, length, sym, ◌∙◌, rules, position}
use Rattle.std.proofs.lemmas.Iterator.{YieldsList-from_slice}
use Rattle.std.proofs.lemmas.Iterator.Search.{position_from_yields_List}
use Rattle.rules.specs.Rules.{rule_nodes}
use Rattle.rules.proofs.Accepts.{rule_short}
use Rattle.answers.specs.Validity.{node_stands}
use Rattle.answers.proofs.Naming.{absent_position}
use Rattle.answers.proofs.validity.first_absent.Goals as goal

pub returns : goal.returns
returns g c =
    let F = g.R.Reading.held c.args.reading.now in
    let ns = rule_nodes c.args.rule.now in
    let at : c.position.result ≡ position (λ v. not (node_stands F v)) ns =
    position_from_yields_List (λ v. not (node_stands F v)) c.position.new.self _ c.position.result c.position.ensures.ran (YieldsList-from_slice ns (c.iter.ensures.rest ∙ c.nodes.ensures)) (λ x b q h. search rules) in
    let short : length ns ≤ 31 = rule_short c.args.rule.now in
    let same : c.map.result ≡ c.position.result = search rules in
    same ∙ at ∙ sym (absent_position F ns)
