-- The numbers of a set come ascending: the lowest first, and then those of the set without it.
use Rattle.std.proofs.Common.{◌≡◌, ℕ, zero, suc, ◌+◌, ◌<◌, ◌≤◌, Bool, true, false, cond, not, ◌&&◌, eqb, List, [], ◌∷◌, sym, refl, ap, ◌∙◌, ⊎_elim, arith}
use Rattle.std.proofs.lemmas.Bool.{cond-true, cond-false, and_left, and_right, eq-eqb, ne_eqb, cases_eq}
use Rattle.std.specs.List.{filter, range_with_len}

-- tests that agree from a on keep the same numbers from a on
kept_alike : (p q : ℕ → Bool) (a n : ℕ) → ((k : ℕ) → a ≤ k → p k ≡ q k) → filter p (range_with_len a n) ≡ filter q (range_with_len a n)
kept_alike p q a zero h = refl
kept_alike p q a (suc n) h =
    ap (λ (b : Bool). cond b (a ∷ filter p (range_with_len (a + 1) n)) (filter p (range_with_len (a + 1) n))) (h a (omega arith))
    ∙ ap (λ (xs : List ℕ). cond (q a) (a ∷ xs) xs) (kept_alike p q (a + 1) n (λ k l. h k (omega arith)))

-- i is the first number that passes, and q is p without it
pub first_kept : (p q : ℕ → Bool) (i a n : ℕ) → a ≤ i → i < a + n → p i ≡ true → ((k : ℕ) → k < i → p k ≡ false) → ((k : ℕ) → q k ≡ (p k && not (eqb k i)))
    → filter p (range_with_len a n) ≡ i ∷ filter q (range_with_len a n)
first_kept p q i a zero l m passes below without = absurd (omega arith)
first_kept p q i a (suc n) l m passes below without =
    ⊎_elim here (λ d. later d (first_kept p q i (a + 1) n (omega arith) (omega arith) passes below without)) (cases_eq a i)
  where
    rest : (ℕ → Bool) → List ℕ
    rest t = filter t (range_with_len (a + 1) n)

    skipped : q a ≡ false → filter q (range_with_len a (suc n)) ≡ rest q
    skipped e = ap (λ (b : Bool). cond b (a ∷ rest q) (rest q)) e

    here : a ≡ i → filter p (range_with_len a (suc n)) ≡ i ∷ filter q (range_with_len a (suc n))
    here e =
        let out : q a ≡ false = without a ∙ and_right (p a) (not (eqb a i)) (ap not (eq-eqb a i e)) in
        let in_it : p a ≡ true = ap p e ∙ passes in
        let alike : rest p ≡ rest q =
        kept_alike p q (a + 1) n (λ k g. let d : eqb k i ≡ false = ne_eqb k i (omega arith) in sym (without k ∙ ap (λ (b : Bool). p k && not b) d ∙ true_right (p k))) in
        ap (λ (b : Bool). cond b (a ∷ rest p) (rest p)) in_it ∙ ap (λ (xs : List ℕ). a ∷ xs) (alike ∙ sym (skipped out)) ∙ ap (λ (x : ℕ). x ∷ filter q (range_with_len a (suc n))) e
      where
        true_right : (b : Bool) → (b && true) ≡ b
        true_right true = refl
        true_right false = refl

    later : (a ≡ i → ⊥) → rest p ≡ i ∷ rest q → filter p (range_with_len a (suc n)) ≡ i ∷ filter q (range_with_len a (suc n))
    later d after =
        let none : p a ≡ false = below a (omega arith) in
        let out : q a ≡ false = without a ∙ and_left (p a) (not (eqb a i)) none in
        ap (λ (b : Bool). cond b (a ∷ rest p) (rest p)) none
        ∙ after
        ∙ ap (λ (xs : List ℕ). i ∷ xs) (sym (skipped out))

-- nothing passes
pub none_kept : (p : ℕ → Bool) (a n : ℕ) → ((k : ℕ) → p k ≡ false) → filter p (range_with_len a n) ≡ []
none_kept p a zero h = refl
none_kept p a (suc n) h = ap (λ (b : Bool). cond b (a ∷ filter p (range_with_len (a + 1) n)) (filter p (range_with_len (a + 1) n))) (h a) ∙ none_kept p (a + 1) n h
