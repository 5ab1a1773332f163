use Rattle.std.proofs.Common.{◌≡◌, ◌∙◌, arith}
use Rattle.model.specs.Facts.{nothing}
use Rattle.model.proofs.Counting.{size_none}
use Rattle.board.specs.Holding.{facts_of}
use Rattle.engine.proofs.engine.Engine.new.Goals as goal

pub returns-clause-empty : goal.returns-clause-empty
returns-clause-empty g c =
    let no_facts : facts_of c.new.result ≡ nothing = λ i s x y. c.new.ensures s x y i in
    c.write_out.ensures.exact (let none = size_none (facts_of c.new.result) c.new.ensures in omega arith) ∙ no_facts
