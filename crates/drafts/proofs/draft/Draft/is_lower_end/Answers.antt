use Rattle.std.proofs.Common.{◌<◌, sym, ◌∙◌, arith}
use Rattle.model.proofs.Possible.{parts}
use Rattle.board.specs.OnlyPossible.{only_possible}
use Rattle.drafts.specs.Pairs.{pair_number}
use Rattle.drafts.proofs.draft.Draft.is_lower_end.Goals as goal

pub returns : goal.returns
returns c =
    let s = pair_number c.args.sort in
    let n = c.args.number in
    let gathered = c.loop-y.invariant n in (
      λ h. let p = gathered.0 (sym c.has.ensures ∙ h) in (p.0, p.2),
      λ p. let low = (parts s n p.0 (only_possible c.args.self.now.board.rows s n p.0 p.1)).upper in
          let all = c.loop-y-test.false in
          let within : p.0 < c.loop-y.y = omega arith in
          c.has.ensures ∙ gathered.1 (p.0, within, p.1),
    )
