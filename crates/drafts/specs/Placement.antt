-- One fact put into a set, or taken out, leaves only possible facts.
use Rattle.std.proofs.Common.{◌≡◌, ℕ, Bool, true, false, ◌&&◌, eqb, sym, ◌∙◌, ⊎_elim}
use Rattle.std.proofs.lemmas.Bool.{eqb-true, and_parts, cases_Bool}
use Rattle.model.specs.Facts.{Facts, OnlyPossible, possible, same, placed}
use Rattle.model.proofs.Sets.{placed_off}

pub placed-possible : (F : Facts) → OnlyPossible F → (s x y : ℕ) (v : Bool) → possible s x y ≡ true → OnlyPossible (placed F s x y v)
placed-possible F only s x y v can a b c h =
    ⊎_elim
    (λ (e : same s x y a b c ≡ true).
    let p = and_parts (eqb a s) (eqb b x && eqb c y) e in
    let q = and_parts (eqb b x) (eqb c y) p.1 in
    let ea = eqb-true a s p.0 in
    let eb = eqb-true b x q.0 in
    let ec = eqb-true c y q.1 in
    let is : possible a b c ≡ possible s x y = cc in
    is ∙ can)
    (λ (e : same s x y a b c ≡ false). only a b c (sym (placed_off F s x y v a b c e) ∙ h))
    (cases_Bool (same s x y a b c))
