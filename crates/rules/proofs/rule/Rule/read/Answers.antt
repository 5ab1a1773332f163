use Rattle.std.proofs.Common.{sym, ap, ◌∙◌}
use Rattle.std.specs.Result.{result_err}
use Rattle.rules.proofs.Accepts.{read-whole}
use Rattle.rules.proofs.rule.Rule.read.Goals as goal

pub invariant_of-result : goal.invariant_of-result
invariant_of-result c =
    let read = c.in_ok-list.ensures in
    record { whole = read-whole c.args.list.now _ read.0 read.1 (sym c.one_tree.ensures ∙ ap result_err c.in_ok-one_tree.was) }
