use Rattle.transfer.specs.Contents.{writing}
use Rattle.law.specs.Scenes.{scene}
use Rattle.law.proofs.Extending.{SoFar}
use Rattle.law.proofs.run.run.Given as goal

-- The orders before i were obeyed.
abbrev pub invariant-loop-i : goal.invariant-loop-i
invariant-loop-i g l =
    SoFar (writing g.S.Store) (scene g.S.Reading g.S.Store l.initial.engine l.initial.purse) l.orders l.initial.answers l.i
    (scene g.S.Reading g.S.Store l.engine l.purse) l.answers
