use Rattle.std.proofs.Common.{◌≡◌, ℕ, true, sym, ◌∙◌, arith}
use Rattle.std.specs.Cmp.{both_ways}
use Rattle.board.specs.OnlyPossible.{only_possible}
use Rattle.model.specs.Facts.{Facts, OnlyPossible, possible}
use Rattle.model.proofs.Possible.{parts}
use Rattle.transfer.proofs.load.load.Goals as goal

-- sets of possible facts are the same if they agree on every possible fact
same_facts : (S T : Facts) → OnlyPossible S → OnlyPossible T → ((s x y : ℕ) → possible s x y ≡ true → S s x y ≡ T s x y) → S ≡ T
same_facts S T only_S only_T agree =
    λ i s x y. both_ways (S s x y) (T s x y) (λ e. sym (agree s x y (only_S s x y e)) ∙ e) (λ e. agree s x y (only_T s x y e) ∙ e) i

pub loop-sort-preserved : goal.loop-sort-preserved
loop-sort-preserved g c = λ s x y can below. grind (arith, c.loop-y.invariant.earlier s x y can, c.loop-y.invariant.here x y, c.row_count-y-end.ensures.all x y)

pub returns : goal.returns
returns g c =
    same_facts _ _ (only_possible c.loop-sort.board.rows) (g.met.R.Reading.only_possible c.args.from.now)
    (λ s x y can. let sort = parts s x y can in c.loop-sort.invariant s x y can (omega arith))
