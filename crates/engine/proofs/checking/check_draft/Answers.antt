use Rattle.std.proofs.Common.{below_more}
use Rattle.drafts.specs.States.{state_of}
use Rattle.engine.specs.Checking.{ValidAt}
use Rattle.engine.proofs.checking.check_draft.Goals as goal

pub loop-slot-preserved : goal.loop-slot-preserved
loop-slot-preserved c = below_more (ValidAt (state_of c.args.draft.now)) c.loop-slot.slot c.loop-slot.invariant c.in_default.ensures
