use Rattle.std.proofs.Common.{◌≡◌}
use Rattle.std.specs.List.{fold}
use Rattle.bits.specs.Members.{members}
use Rattle.transfer.specs.Contents.{content, writing}
use Rattle.transfer.specs.Orders.{ascending, each_upper, each_of_sort}
use Rattle.transfer.proofs.pass.visit_all.Given as goal

abbrev pub invariant-loop-sort : goal.invariant-loop-sort
invariant-loop-sort g l =
    content g.S.Reading g.S.Store l.store
    ≡ ascending (each_of_sort (g.P.Pass.step (writing g.S.Store) (g.R.Reading.held l.model))) l.sort (content g.S.Reading g.S.Store l.initial.store)

-- what is still to come leads to the end of the sort
abbrev pub invariant-loop-x : goal.invariant-loop-x
invariant-loop-x g l =
    let each = each_upper (g.P.Pass.step (writing g.S.Store) (g.R.Reading.held l.model)) l.sort in
    fold (λ C x. each x C) (content g.S.Reading g.S.Store l.store) (members l.x-iterator.rest.word)
    ≡ ascending each 64 (content g.S.Reading g.S.Store l.initial.store)

abbrev pub invariant-loop-y : goal.invariant-loop-y
invariant-loop-y g l =
    content g.S.Reading g.S.Store l.store
    ≡ ascending (g.P.Pass.step (writing g.S.Store) (g.R.Reading.held l.model) l.sort l.x) l.y (content g.S.Reading g.S.Store l.initial.store)
