-- A side that is replaced row by row.
use Rattle.std.proofs.Common.{◌≡◌, ℕ, ◌+◌, ◌<◌, ◌≤◌, Bool, true, false, cond, ◌&&◌, ◌||◌, eqb, ltb, ◌≢◌, sym, refl, ap, ◌∙◌, ap₂, ⊎_elim, arith}
use Rattle.std.proofs.lemmas.Bool.Decides.{nat_tests}
use Rattle.std.proofs.lemmas.Bool.{cases_eq, cases_lt, cases_Bool, cond-true, cond-false, and_from, and_left, and_right, or_left, or_right, or_from, eq-eqb, ne_eqb, lt-ltb, le-ltb}
use Rattle.model.specs.Facts.{Facts, OnlyPossible, possible}
use Rattle.model.specs.Sides.{stands_sort, has_sort, under_sort}
use Rattle.model.specs.declared.side.Side.{Side}
use Rattle.model.specs.declared.side.Side.TheVariants.{Role, Unit}
use Rattle.model.proofs.Possible.{parts}
use Rattle.drafts.specs.Sided.{sided, with_side}
use Rattle.drafts.specs.SideFacts.{at-stands, at_has, at_under, at_other, stands_low, has_pair, under_pair}

-- the pairs of a side below y are those of G, and the rest is as in B
abbrev pub so_far : Side → Facts → Facts → ℕ → Facts
so_far k G B y s x v = cond ((eqb s (has_sort k) || eqb s (under_sort k)) && ltb v y) (G s x v) (B s x v)

has-not-under : (k : Side) → has_sort k ≢ under_sort k
has-not-under Role = omega arith
has-not-under Unit = omega arith

-- what only possible facts say needs no test
kept : (G : Facts) → OnlyPossible G → (s x y : ℕ) → (possible s x y && G s x y) ≡ G s x y
kept G only s x y =
    ⊎_elim (λ e. and_from (possible s x y) (G s x y) (only s x y e) e ∙ sym e) (λ e. and_right (possible s x y) (G s x y) e ∙ sym e) (cases_Bool (G s x y))

absent : (G : Facts) → OnlyPossible G → (s x y : ℕ) → (possible s x y ≡ true → ⊥) → G s x y ≡ false
absent G only s x y d = ⊎_elim (λ e. absurd (d (only s x y e))) (λ e. e) (cases_Bool (G s x y))

next_same : (v y : ℕ) → (v ≡ y → ⊥) → ltb v y ≡ ltb v (y + 1)
next_same v y d = grind (arith, nat_tests)

module _ (k : Side) (G B f0 f1 f2 : Facts) (y : ℕ) (r1 r2 : ℕ → Bool) (only : OnlyPossible G)
    (row1 : (x : ℕ) → r1 x ≡ G (has_sort k) x y) (row2 : (x : ℕ) → r2 x ≡ G (under_sort k) x y)
    (first : (s x v : ℕ) → f1 s x v ≡ cond (eqb s (has_sort k) && eqb v y) (possible s x v && r1 x) (f0 s x v))
    (second : (s x v : ℕ) → f2 s x v ≡ cond (eqb s (under_sort k) && eqb v y) (possible s x v && r2 x) (f1 s x v))
    (before : (s x v : ℕ) → f0 s x v ≡ so_far k G B y s x v) where
  elsewhere : (s x v : ℕ) → (v ≡ y → ⊥) → f2 s x v ≡ so_far k G B (y + 1) s x v
  elsewhere s x v d =
      second s x v ∙ cond-false (eqb s (under_sort k) && eqb v y) _ _ (and_right (eqb s (under_sort k)) (eqb v y) (ne_eqb v y d))
      ∙ first s x v ∙ cond-false (eqb s (has_sort k) && eqb v y) _ _ (and_right (eqb s (has_sort k)) (eqb v y) (ne_eqb v y d))
      ∙ before s x v ∙ ap (λ (b : Bool). cond ((eqb s (has_sort k) || eqb s (under_sort k)) && b) (G s x v) (B s x v)) (next_same v y d)

  -- the row y itself
  written : (s x v : ℕ) → v ≡ y → (eqb s (has_sort k) || eqb s (under_sort k)) ≡ true → so_far k G B (y + 1) s x v ≡ G s x v
  written s x v e h = cond-true ((eqb s (has_sort k) || eqb s (under_sort k)) && ltb v (y + 1)) (G s x v) (B s x v) (and_from _ (ltb v (y + 1)) h (lt-ltb v (y + 1) (omega arith)))

  at_row : (s x v : ℕ) → v ≡ y → f2 s x v ≡ so_far k G B (y + 1) s x v
  at_row s x v e =
      ⊎_elim
      (λ (u : s ≡ under_sort k).
      second s x v ∙ cond-true (eqb s (under_sort k) && eqb v y) _ _ (and_from (eqb s (under_sort k)) (eqb v y) (eq-eqb s (under_sort k) u) (eq-eqb v y e))
      ∙ ap (λ (b : Bool). possible s x v && b) (row2 x ∙ ap₂ (λ (a b : ℕ). G a x b) (sym u) (sym e))
      ∙ kept G only s x v ∙ sym (written s x v e (or_right (eqb s (has_sort k)) (eqb s (under_sort k)) (eq-eqb s (under_sort k) u))))
      (λ (d : s ≡ under_sort k → ⊥).
      second s x v ∙ cond-false (eqb s (under_sort k) && eqb v y) _ _ (and_left (eqb s (under_sort k)) (eqb v y) (ne_eqb s (under_sort k) d))
      ∙ ⊎_elim
      (λ (h : s ≡ has_sort k).
      first s x v ∙ cond-true (eqb s (has_sort k) && eqb v y) _ _ (and_from (eqb s (has_sort k)) (eqb v y) (eq-eqb s (has_sort k) h) (eq-eqb v y e))
      ∙ ap (λ (b : Bool). possible s x v && b) (row1 x ∙ ap₂ (λ (a b : ℕ). G a x b) (sym h) (sym e))
      ∙ kept G only s x v ∙ sym (written s x v e (or_left (eqb s (has_sort k)) (eqb s (under_sort k)) (eq-eqb s (has_sort k) h))))
      (λ (n : s ≡ has_sort k → ⊥).
      let none : (eqb s (has_sort k) || eqb s (under_sort k)) ≡ false = or_from (eqb s (has_sort k)) (eqb s (under_sort k)) (ne_eqb s (has_sort k) n) (ne_eqb s (under_sort k) d) in
      first s x v ∙ cond-false (eqb s (has_sort k) && eqb v y) _ _ (and_left (eqb s (has_sort k)) (eqb v y) (ne_eqb s (has_sort k) n))
      ∙ before s x v ∙ cond-false ((eqb s (has_sort k) || eqb s (under_sort k)) && ltb v y) _ _ (and_left _ (ltb v y) none)
      ∙ sym (cond-false ((eqb s (has_sort k) || eqb s (under_sort k)) && ltb v (y + 1)) _ _ (and_left _ (ltb v (y + 1)) none)))
      (cases_eq s (has_sort k)))
      (cases_eq s (under_sort k))

  pub more : (s x v : ℕ) → f2 s x v ≡ so_far k G B (y + 1) s x v
  more s x v = ⊎_elim (at_row s x v) (elsewhere s x v) (cases_eq v y)

module _ (k : Side) (F G B f : Facts) (r0 : ℕ → Bool) (only_F : OnlyPossible F) (only_G : OnlyPossible G)
    (row0 : (x : ℕ) → r0 x ≡ G (stands_sort k) x 0)
    (start : (s x v : ℕ) → B s x v ≡ cond (eqb s (stands_sort k) && eqb v 0) (possible s x v && r0 x) (F s x v))
    (done : (s x v : ℕ) → f s x v ≡ so_far k G B 64 s x v) where
  -- not the sort of what stands
  rest : (s x v : ℕ) → (s ≡ stands_sort k → ⊥) → B s x v ≡ F s x v
  rest s x v d = start s x v ∙ cond-false (eqb s (stands_sort k) && eqb v 0) _ _ (and_left (eqb s (stands_sort k)) (eqb v 0) (ne_eqb s (stands_sort k) d))

  pairs : (s x v : ℕ) → (eqb s (has_sort k) || eqb s (under_sort k)) ≡ true → (s ≡ stands_sort k → ⊥) → f s x v ≡ G s x v
  pairs s x v h d =
      ⊎_elim
      (λ (l : v < 64). done s x v ∙ cond-true ((eqb s (has_sort k) || eqb s (under_sort k)) && ltb v 64) _ _ (and_from _ (ltb v 64) h (lt-ltb v 64 l)))
      (λ (l : 64 ≤ v).
      let far : possible s x v ≡ true → ⊥ = λ p. let u = (parts s x v p).upper in omega arith in
      done s x v ∙ cond-false ((eqb s (has_sort k) || eqb s (under_sort k)) && ltb v 64) _ _ (and_right _ (ltb v 64) (le-ltb v 64 l))
      ∙ rest s x v d ∙ absent F only_F s x v far ∙ sym (absent G only_G s x v far))
      (cases_lt v 64)

  neither : (s x v : ℕ) → (s ≡ has_sort k → ⊥) → (s ≡ under_sort k → ⊥) → f s x v ≡ B s x v
  neither s x v h u =
      done s x v ∙ cond-false ((eqb s (has_sort k) || eqb s (under_sort k)) && ltb v 64) _ _
      (and_left _ (ltb v 64) (or_from (eqb s (has_sort k)) (eqb s (under_sort k)) (ne_eqb s (has_sort k) h) (ne_eqb s (under_sort k) u)))

  standing : (x v : ℕ) → B (stands_sort k) x v ≡ (eqb v 0 && G (stands_sort k) x 0)
  standing x v =
      ⊎_elim
      (λ (e : v ≡ 0).
      start (stands_sort k) x v ∙ cond-true (eqb (stands_sort k) (stands_sort k) && eqb v 0) _ _ (and_from _ (eqb v 0) (eq-eqb (stands_sort k) (stands_sort k) refl) (eq-eqb v 0 e))
      ∙ ap₂ (λ (a : ℕ) (b : Bool). possible (stands_sort k) x a && b) e (row0 x) ∙ kept G only_G (stands_sort k) x 0
      ∙ sym (ap (λ (b : Bool). b && G (stands_sort k) x 0) (eq-eqb v 0 e)))
      (λ (d : v ≡ 0 → ⊥).
      let l = stands_low k in
      start (stands_sort k) x v ∙ cond-false (eqb (stands_sort k) (stands_sort k) && eqb v 0) _ _ (and_right _ (eqb v 0) (ne_eqb v 0 d))
      ∙ absent F only_F (stands_sort k) x v (λ p. ⊎_elim (λ h. omega arith) d (parts (stands_sort k) x v p).pair)
      ∙ sym (and_left (eqb v 0) (G (stands_sort k) x 0) (ne_eqb v 0 d)))
      (cases_eq v 0)

  pub all : (s x v : ℕ) → f s x v ≡ with_side F k (sided G k) s x v
  all s x v =
      let l = stands_low k in
      let h0 = (has_pair k).0 in
      let u0 = (under_pair k).0 in
      ⊎_elim
      (λ (e : s ≡ stands_sort k).
      neither s x v (λ q. omega arith) (λ q. omega arith) ∙ ap (λ (a : ℕ). B a x v) e ∙ standing x v ∙ sym (ap (λ (a : ℕ). with_side F k (sided G k) a x v) e ∙ at-stands F k (sided G k) x v))
      (λ (d : s ≡ stands_sort k → ⊥). ⊎_elim
      (λ (e : s ≡ has_sort k).
      pairs s x v (or_left (eqb s (has_sort k)) (eqb s (under_sort k)) (eq-eqb s (has_sort k) e)) d ∙ ap (λ (a : ℕ). G a x v) e
      ∙ sym (ap (λ (a : ℕ). with_side F k (sided G k) a x v) e ∙ at_has F k (sided G k) x v))
      (λ (dh : s ≡ has_sort k → ⊥). ⊎_elim
      (λ (e : s ≡ under_sort k).
      pairs s x v (or_right (eqb s (has_sort k)) (eqb s (under_sort k)) (eq-eqb s (under_sort k) e)) d ∙ ap (λ (a : ℕ). G a x v) e
      ∙ sym (ap (λ (a : ℕ). with_side F k (sided G k) a x v) e ∙ at_under F k (sided G k) x v))
      (λ (du : s ≡ under_sort k → ⊥). neither s x v dh du ∙ rest s x v d ∙ sym (at_other F k (sided G k) s x v d dh du))
      (cases_eq s (under_sort k)))
      (cases_eq s (has_sort k)))
      (cases_eq s (stands_sort k))
