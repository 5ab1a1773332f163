use Rattle.std.proofs.Common.{None, Option, arith}
use Rattle.std.proofs.lemmas.Bool.Decides.{nat_tests}
use Rattle.std.proofs.lemmas.List.{get_or-replicate}
use Rattle.rules.specs.declared.rule.Rule.{Rule}
use Rattle.rules.proofs.book.Book.new.Goals as goal

pub returns : goal.returns
returns c i = grind (arith, nat_tests, get_or-replicate {A = Option Rule} 32 i None None)
