-- A row with one fact put in or taken out.
use Rattle.std.proofs.Common.{◌≡◌, ℕ, Bool, true, false, cond, not, ◌&&◌, ◌||◌, eqb, sym, refl, ap, ◌∙◌, ⊎_elim}
use Rattle.std.proofs.lemmas.Bool.{and_left, and_right, eq-eqb, eqb-true, cases_Bool}
use Rattle.model.specs.Facts.{Facts, same, placed}
use Rattle.model.specs.declared.fact.Fact.{Fact}
use Rattle.model.proofs.Sets.{placed_off}

-- another row stays
pub other_row : (F : Facts) (s x y : ℕ) (v : Bool) (a b c : ℕ) → (a ≡ s → c ≡ y → ⊥) → F a b c ≡ placed F s x y v a b c
other_row F s x y v a b c d =
    sym (placed_off F s x y v a b c
    (⊎_elim
    (λ (e : eqb a s ≡ true). ⊎_elim (λ (f : eqb c y ≡ true). absurd (d (eqb-true a s e) (eqb-true c y f))) (λ f. and_right (eqb a s) _ (and_right (eqb b x) (eqb c y) f)) (cases_Bool (eqb c y)))
    (λ e. and_left (eqb a s) _ e)
    (cases_Bool (eqb a s))))

-- the row of the fact
pub own_row : (F : Facts) (s x y : ℕ) (v : Bool) (a b c : ℕ) → a ≡ s → c ≡ y → placed F s x y v a b c ≡ cond (eqb b x) v (F a b c)
unfolding placed
own_row F s x y v a b c ea ec =
    ap (λ (t : Bool). cond (t && (eqb b x && eqb c y)) v (F a b c)) (eq-eqb a s ea)
    ∙ ap (λ (t : Bool). cond (eqb b x && t) v (F a b c)) (eq-eqb c y ec)
    ∙ ap (λ (t : Bool). cond t v (F a b c)) (keep (eqb b x))
  where
    keep : (t : Bool) → (t && true) ≡ t
    keep true = refl
    keep false = refl

pub put_in : (was e l : Bool) → l ≡ true → (was || (e && l)) ≡ cond e true was
put_in was true l h = or_end was l h
  where
    or_end : (was l : Bool) → l ≡ true → (was || l) ≡ true
    or_end true l h = refl
    or_end false l h = h
put_in true false l h = refl
put_in false false l h = refl

pub take_out : (was e : Bool) → (was && not e) ≡ cond e false was
take_out true true = refl
take_out true false = refl
take_out false true = refl
take_out false false = refl

-- a fact placed over equal facts
pub placed_over : (F G : Facts) → ((a b c : ℕ) → F a b c ≡ G a b c) → (s x y : ℕ) (v : Bool) (a b c : ℕ) → placed F s x y v a b c ≡ placed G s x y v a b c
unfolding placed
placed_over F G h s x y v a b c = ap (cond (same s x y a b c) v) (h a b c)

-- an equal fact placed
pub placed_as : (F : Facts) (f g : Fact) → f ≡ g → (v : Bool) (a b c : ℕ) → placed F f.sort f.x f.y v a b c ≡ placed F g.sort g.x g.y v a b c
placed_as F f g e v a b c = ap (λ (h : Fact). placed F h.sort h.x h.y v a b c) e
