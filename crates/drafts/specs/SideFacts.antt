-- A model with the facts of one side replaced.
use Rattle.std.proofs.Common.{◌≡◌, ℕ, ◌<◌, ◌≤◌, true, ◌&&◌, eqb, sym, refl, ◌∙◌, subst, inl, inr, ⊎_elim, arith}
use Rattle.std.proofs.lemmas.Bool.{cases_eq, cond-false, ne_eqb, and_parts, eqb-true}
use Rattle.model.specs.Facts.{Facts, OnlyPossible}
use Rattle.model.specs.Sides.{stands_sort, has_sort, under_sort}
use Rattle.model.specs.declared.side.Side.{Side}
use Rattle.model.specs.declared.side.Side.TheVariants.{Role, Unit}
use Rattle.model.proofs.Possible.{parts, whole}
use Rattle.drafts.specs.Sided.{Sided, sided, with_side, side_changed}

pub at-stands : (F : Facts) (k : Side) (S : Sided) (x y : ℕ) → with_side F k S (stands_sort k) x y ≡ (eqb y 0 && S.stands x)
at-stands F Role S x y = refl
at-stands F Unit S x y = refl

pub at_has : (F : Facts) (k : Side) (S : Sided) (a y : ℕ) → with_side F k S (has_sort k) a y ≡ S.has a y
at_has F Role S a y = refl
at_has F Unit S a y = refl

pub at_under : (F : Facts) (k : Side) (S : Sided) (x y : ℕ) → with_side F k S (under_sort k) x y ≡ S.under x y
at_under F Role S x y = refl
at_under F Unit S x y = refl

pub at_other : (F : Facts) (k : Side) (S : Sided) (s x y : ℕ) → (s ≡ stands_sort k → ⊥) → (s ≡ has_sort k → ⊥) → (s ≡ under_sort k → ⊥) → with_side F k S s x y ≡ F s x y
at_other F k S s x y p q r =
    cond-false (eqb s (stands_sort k)) _ _ (ne_eqb s (stands_sort k) p)
    ∙ cond-false (eqb s (has_sort k)) _ _ (ne_eqb s (has_sort k) q)
    ∙ cond-false (eqb s (under_sort k)) _ _ (ne_eqb s (under_sort k) r)

-- the sorts of a side
pub stands_low : (k : Side) → stands_sort k < 3
stands_low Role = omega arith
stands_low Unit = omega arith

pub has_pair : (k : Side) → (3 ≤ has_sort k) × (has_sort k < 7)
has_pair Role = (omega arith, omega arith)
has_pair Unit = (omega arith, omega arith)

pub under_pair : (k : Side) → (3 ≤ under_sort k) × (under_sort k < 7)
under_pair Role = (omega arith, omega arith)
under_pair Unit = (omega arith, omega arith)

-- the numbers of a side's facts are in range
pub record InRange (S : Sided) : Type 0 where
  pub stands : (x : ℕ) → S.stands x ≡ true → x < 64
  pub has : (a y : ℕ) → S.has a y ≡ true → (a < 64) × (y < 64)
  pub under : (x y : ℕ) → S.under x y ≡ true → (x < 64) × (y < 64)

pub sided-range : (F : Facts) → OnlyPossible F → (k : Side) → InRange (sided F k)
sided-range F only k = record {
  stands = λ x h. (parts (stands_sort k) x 0 (only (stands_sort k) x 0 h)).lower;
  has = λ a y h. let p = parts (has_sort k) a y (only (has_sort k) a y h) in (p.lower, p.upper);
  under = λ x y h. let p = parts (under_sort k) x y (only (under_sort k) x y h) in (p.lower, p.upper);
}

pub with_side-possible : (F : Facts) → OnlyPossible F → (k : Side) (S : Sided) → InRange S → OnlyPossible (with_side F k S)
with_side-possible F only k S r s x y h =
    ⊎_elim
    (λ (e : s ≡ stands_sort k).
    let p = and_parts (eqb y 0) (S.stands x) (sym (at-stands F k S x y) ∙ subst (λ (z : ℕ). with_side F k S z x y ≡ true) e h) in
    let z = eqb-true y 0 p.0 in
    let l = stands_low k in
    whole s x y (record { sort = omega arith; lower = r.stands x p.1; upper = omega arith; pair = inr z }))
    (λ (d1 : s ≡ stands_sort k → ⊥). ⊎_elim
    (λ (e : s ≡ has_sort k).
    let p = r.has x y (sym (at_has F k S x y) ∙ subst (λ (z : ℕ). with_side F k S z x y ≡ true) e h) in
    let l = has_pair k in
    let l0 = l.0 in let l1 = l.1 in
    whole s x y (record { sort = omega arith; lower = p.0; upper = p.1; pair = inl (omega arith) }))
    (λ (d2 : s ≡ has_sort k → ⊥). ⊎_elim
    (λ (e : s ≡ under_sort k).
    let p = r.under x y (sym (at_under F k S x y) ∙ subst (λ (z : ℕ). with_side F k S z x y ≡ true) e h) in
    let l = under_pair k in
    let l0 = l.0 in let l1 = l.1 in
    whole s x y (record { sort = omega arith; lower = p.0; upper = p.1; pair = inl (omega arith) }))
    (λ (d3 : s ≡ under_sort k → ⊥). only s x y (sym (at_other F k S s x y d1 d2 d3) ∙ h))
    (cases_eq s (under_sort k)))
    (cases_eq s (has_sort k)))
    (cases_eq s (stands_sort k))

-- a change that keeps the numbers in range leaves only possible facts
pub side_changed-possible : (k : Side) (change : Sided → Sided) → ((S : Sided) → InRange S → InRange (change S)) → (F : Facts) → OnlyPossible F → OnlyPossible (side_changed k change F)
side_changed-possible k change keeps F only = with_side-possible F only k (change (sided F k)) (keeps (sided F k) (sided-range F only k))
