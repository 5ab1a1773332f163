use Rattle.std.proofs.Common.{◌+◌, ◌*◌, cond, length}
use Rattle.rules.proofs.text.+show.Given as goal

abbrev pub decreases-show : goal.decreases-show
decreases-show g l = 2 * length l.tree.now + cond l.parens 1 0
