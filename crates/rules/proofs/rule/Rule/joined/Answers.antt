use Rattle.std.proofs.Common.{ap, ◌∙◌, arith}
use Rattle.rules.specs.Scan.{one_rule}
use Rattle.rules.proofs.Edited.{joined-whole, joined_tree}
use Rattle.rules.proofs.rule.Rule.joined.Goals as goal

pub invariant_of-result : goal.invariant_of-result
invariant_of-result c = record { whole = ap one_rule c.joined.ensures ∙ joined-whole c.args.joining c.args.self.now (omega arith) }

pub returns : goal.returns
returns c = (omega arith, joined_tree c.args.joining c.args.self.now _ c.joined.ensures)
