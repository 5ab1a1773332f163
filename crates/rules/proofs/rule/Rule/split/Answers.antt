use Rattle.std.proofs.Common.{length, ap, ◌∙◌, inr, arith}
use Rattle.std.proofs.lemmas.List.{length-take}
use Rattle.rules.specs.Scan.{one_rule}
use Rattle.rules.proofs.Edited.{split-list, split-whole, split_tree}
use Rattle.rules.proofs.rule.Rule.split.Goals as goal

pub returns-in_err-list : goal.returns-in_err-list
returns-in_err-list c =
    rw c.from_residual.ensures (inr (inr (omega (arith, c.in_err-list.ensures, ap length (split-list c.args.splitting c.args.self.now)))))

pub invariant_of-result : goal.invariant_of-result
invariant_of-result c =
    record { whole = ap one_rule c.in_ok-list.ensures ∙ split-whole c.args.splitting c.args.self.now (omega arith) (omega arith) }

pub returns : goal.returns
returns c = (
  omega arith,
  omega arith,
  omega (arith, ap length (c.in_ok-list.ensures ∙ split-list c.args.splitting c.args.self.now), length-take c.in_ok-list.list.len c.in_ok-list.list.nodes),
  split_tree c.args.splitting c.args.self.now _ c.in_ok-list.ensures,
)
