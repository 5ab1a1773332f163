use Rattle.std.proofs.Common.{◌≡◌, Some}
use Rattle.law.specs.Purses.{ticket_at}
use Rattle.law.proofs.Places.{laid_back}
use Rattle.law.proofs.purse.take_as.Goals as goal

pub returns-in-Err-clause-left : goal.returns-in-Err-clause-left
returns-in-Err-clause-left g c =
    let took = c.in_ok-take.ensures in
    let was : ticket_at c.args.purse.now c.args.i ≡ Some c.in-Err.other = cc (took.ticket, c.in-Err.ensures.1) in
    laid_back _ _ _ _ _ was took.left.1 c.lay.ensures
