use Rattle.std.proofs.Common.{sym, ◌∙◌}
use Rattle.rules.specs.Rules.{rule_tree}
use Rattle.rules.proofs.Accepts.{rules_are_trees}
use Rattle.rules.proofs.text.RuleDisplay.fmt.Goals as goal

pub returns-clause-writes : goal.returns-clause-writes
returns-clause-writes g c = let r = c.args.self.now in c.show.ensures (rule_tree r) ((rules_are_trees r).list ∙ sym c.nodes.ensures)
