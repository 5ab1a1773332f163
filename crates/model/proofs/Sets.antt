-- Sets of facts that differ in one fact.
use Rattle.std.proofs.Common.{◌≡◌, ℕ, Bool, true, false, ◌&&◌, eqb, sym, refl, ◌∙◌, ⊎_elim}
use Rattle.std.proofs.lemmas.Bool.{eqb-true, eq-eqb, cases_Bool, cond-true, cond-false, and_parts, and_from}
use Rattle.model.specs.Facts.{Facts, same, placed}

pub same_self : (s x y : ℕ) → same s x y s x y ≡ true
same_self s x y = and_from (eqb s s) (eqb x x && eqb y y) (eq-eqb s s refl) (and_from (eqb x x) (eqb y y) (eq-eqb x x refl) (eq-eqb y y refl))

pub placed_here : (S : Facts) (s x y : ℕ) (v : Bool) → placed S s x y v s x y ≡ v
unfolding placed
placed_here S s x y v = cond-true (same s x y s x y) v (S s x y) (same_self s x y)

pub placed_off : (S : Facts) (s x y : ℕ) (v : Bool) (a b c : ℕ) → same s x y a b c ≡ false → placed S s x y v a b c ≡ S a b c
unfolding placed
placed_off S s x y v a b c h = cond-false (same s x y a b c) v (S a b c) h

-- a set is the placed one if it is right at the fact and unchanged off it
pub placed-is : (S R : Facts) (s x y : ℕ) (v : Bool) → R s x y ≡ v → ((a b c : ℕ) → same s x y a b c ≡ false → R a b c ≡ S a b c) → R ≡ placed S s x y v
placed-is S R s x y v here off = λ i a b c. each a b c i
  where
    each : (a b c : ℕ) → R a b c ≡ placed S s x y v a b c
    each a b c =
        ⊎_elim
        (λ e.
        let p = and_parts (eqb a s) (eqb b x && eqb c y) e in
        let q = and_parts (eqb b x) (eqb c y) p.1 in
        let ea = eqb-true a s p.0 in
        let eb = eqb-true b x q.0 in
        let ec = eqb-true c y q.1 in
        let at : R a b c ≡ R s x y = cc in
        let at' : placed S s x y v a b c ≡ placed S s x y v s x y = cc in
        at ∙ here ∙ sym (placed_here S s x y v) ∙ sym at')
        (λ e. off a b c e ∙ sym (placed_off S s x y v a b c e))
        (cases_Bool (same s x y a b c))

-- placing a fact as it is changes nothing
pub placed-idle : (S : Facts) (s x y : ℕ) (v : Bool) → S s x y ≡ v → S ≡ placed S s x y v
placed-idle S s x y v h = placed-is S S s x y v h (λ a b c _. refl)
