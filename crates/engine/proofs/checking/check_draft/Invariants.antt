use Rattle.drafts.specs.States.{state_of}
use Rattle.engine.specs.Checking.{ValidBelow}
use Rattle.engine.proofs.checking.check_draft.Given as goal

abbrev pub invariant-loop-slot : goal.invariant-loop-slot
invariant-loop-slot l = ValidBelow (state_of l.draft) l.slot
