use Rattle.std.proofs.Common.{refl, rules, ⊎_elim}
use Rattle.std.proofs.lemmas.Bool.{cases_Bool}
use Rattle.std.proofs.lemmas.Iterator.{YieldsList-from_range, cases_from_any}
use Rattle.model.specs.Chains.{Below}
use Rattle.model.proofs.Closure.{below-number}
use Rattle.model.proofs.Ranges.{any_below}
use Rattle.model.proofs.chains.has_circle.Goals as goal

pub returns : goal.returns
returns g c =
    let S = g.R.Reading.held c.args.reading.now in
    let k = c.args.side in
    let t = any_below c.any.result 64 (λ x. Below S k x x) (λ x. Below S k x x → ⊥)
    (cases_from_any _ _ c.any.result (λ x. Below S k x x) (λ x. Below S k x x → ⊥) c.any.ensures.ran (YieldsList-from_range 0 64 64 refl refl)
    (λ x q h. search rules) (λ x q h. search rules)) in
    (t.0, λ e. ⊎_elim (λ y. y) (λ n. absurd (t.1 n e.0 (below-number S k (g.met.R.Reading.only_possible c.args.reading.now) e.1) e.1)) (cases_Bool c.any.result))
