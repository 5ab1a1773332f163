use Rattle.std.proofs.Common.{rules}
use Rattle.list.specs.Words.{listed}
use Rattle.list.proofs.Moves.{begun}
use Rattle.list.proofs.kept.begin.Goals as goal

pub returns : goal.returns
returns c =
    let new = c.new-list.result in
    let f = c.args.fact in
    let words = begun c.args.words.now new.words.now c.put.new.self.words.now (listed new.words.now new.used) f.sort f.x f.y c.put.result
    c.new-list.ensures.words c.new-list.ensures.none c.put.ensures.answer c.put.ensures.words in
    search rules
