use Rattle.std.proofs.Common.{◌≡◌, ◌<◌, ◌||◌, get_or, take, length-take, sym, ap, ◌∙◌, ap₂, arith, get_or-take, refl}
use Rattle.bits.specs.Bit.{bit}
use Rattle.list.proofs.Listings.{possible_at, listed-none}
use Rattle.list.proofs.Rows.{row_hit, row_miss}
use Rattle.list.proofs.store.FactListReading.row.Goals as goal
use Rattle.list.proofs.store.FactListReading.row.Goals.{then-w-sort+then-w-y, else-w-sort, else-w-sort-via-then-w-sort+else-w-y, else-w-sort-via-else-w-sort}

pub loop-w-init : goal.loop-w-init
loop-w-init c x = c.none-row.ensures x ∙ sym (listed-none c.args.self.now.words.now c.args.sort x c.args.y)

pub loop-w-preserved : goal.loop-w-preserved
loop-w-preserved c x =
    let ws = c.args.self.now.words.now in
    let n = c.args.self.now.used in
    let i = c.loop-w.w-index in
    let w = get_or (take n ws) i 0 in
    let s = c.args.sort in
    let y = c.args.y in
    let all = length-take n ws in
    let below : i < n = omega arith in
    let at : w ≡ get_or ws i 0 = get_or-take n ws i 0 below in
    let can = possible_at w (get_or ws i 0) at (c.args.self.now.facts i below) in
    elim c.if-w-sort.branch [
      | then-w-sort+then-w-y b ↦
          ap (λ r. bit r.word x) b.row-is ∙ b.with-row.ensures x ∙ ap₂ ◌||◌ (c.loop-w.invariant x) refl ∙ sym (row_hit ws i s x y w at can b.if-w-sort.true b.if-w-y.true)
      | else-w-sort b ↦
          ap (λ r. bit r.word x) b.row-is ∙ c.loop-w.invariant x ∙ sym (row_miss ws i s x y w at (λ es ey. elim b.else-w-sort.branch [
            | else-w-sort-via-then-w-sort+else-w-y d ↦ d.if-w-y.false ey
            | else-w-sort-via-else-w-sort d ↦ d.if-w-sort.false es
          ]))
    ]
