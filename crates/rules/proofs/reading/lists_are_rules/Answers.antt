use Rattle.rules.proofs.Coding.{bytes_exact}
use Rattle.rules.proofs.Accepts.{accepts, rules_are_trees}
use Rattle.rules.proofs.Parsed.{one_tree}
use Rattle.rules.proofs.reading.lists_are_rules.Goals as goal

pub returns : goal.returns
returns c = record { bytes = bytes_exact; accepted = accepts; unique = one_tree; trees = rules_are_trees }
