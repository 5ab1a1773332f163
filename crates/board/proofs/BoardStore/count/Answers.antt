use Rattle.std.proofs.Common.{◌≡◌, refl, ap, ◌∙◌, arith}
use Rattle.bits.specs.Total.{total}
use Rattle.model.proofs.Counting.{size-most}
use Rattle.board.specs.Rows.{marked}
use Rattle.board.proofs.Counts.{few, ones_more, ones_size, ones_at}
use Rattle.board.proofs.BoardStore.count.Goals as goal

pub overflow_add-n : goal.overflow_add-n
overflow_add-n c = omega (arith, few c.args.self.now.rows c.loop-row.row-index)

pub loop-row-init : goal.loop-row-init
unfolding total
loop-row-init c = refl

pub loop-row-preserved : goal.loop-row-preserved
loop-row-preserved c =
    let more = ones_more c.args.self.now.rows c.loop-row.row-index in
    cc

pub returns : goal.returns
returns c =
    let rows = c.args.self.now.rows in
    let all : c.loop-row.row-index ≡ 259 = omega arith in
    let value = c.loop-row.invariant ∙ ap (total (ones_at rows)) all ∙ ones_size rows in
    record { value = value; within = let most = size-most (marked rows) in omega arith }
