-- The rules that a split may make too long.
use Rattle.std.proofs.Common.{◌≡◌, ℕ, ◌<◌, ◌≤◌, Bool, true, false, ltb, ◌⊎◌, Some, None, MatchOption, Option, sym, refl, ap, ◌∙◌, subst, inl, inr, ⊎_elim, arith}
use Rattle.model.specs.declared.side.Side.{Side}
use Rattle.rules.specs.Trees.{Tree}
use Rattle.drafts.specs.Shares.{LowestLong, if_fits, parted_rule, too_long}
use Rattle.drafts.specs.Slots.{Slots, edited}
use Rattle.drafts.specs.Splitting.{Parts}
use Rattle.std.proofs.lemmas.Bool.{cond-false, cases_Bool, ltb-true, ltb-false, true≢false}

-- a rule that does not get too long is split
pub fitting : (k : Side) (D : Parts) (o : Option Tree) → too_long k D o ≡ false → edited (if_fits k D) o ≡ edited (parted_rule k D) o
fitting k D None h = refl
fitting k D (Some t) h = ap Some (cond-false (too_long k D (Some t)) t (parted_rule k D t) h)

apart : {b : Bool} → b ≡ false → b ≡ true → ⊥
apart e f = true≢false (sym f ∙ e)

before : (i k : ℕ) → (i < k) ⊎ (k ≤ i)
before i k = ⊎_elim (λ (h : ltb i k ≡ true). inl (ltb-true i k h)) (λ (h : ltb i k ≡ false). inr (ltb-false i k h)) (cases_Bool (ltb i k))

-- there is one lowest slot, or none
pub lowest-same : (k : Side) (D : Parts) (B : Slots) (l m : Option ℕ) → LowestLong k D B l → LowestLong k D B m → l ≡ m
lowest-same k D B None None h j = refl
lowest-same k D B None (Some s) h j = absurd (apart (h s) j.0)
lowest-same k D B (Some s) None h j = absurd (apart (j s) h.0)
lowest-same k D B (Some s) (Some t) h j =
    ap Some
    (⊎_elim
    (λ (e : s < t). absurd (apart (j.1 s e) h.0))
    (λ (e : t ≤ s). ⊎_elim (λ (d : t < s). absurd (apart (h.1 t d) j.0)) (λ (d : s ≤ t). omega arith) (before t s))
    (before s t))

-- the same split has the same lowest slot
pub lowest_of : (k j : Side) (D E : Parts) (B : Slots) (l : Option ℕ) → k ≡ j → D ≡ E → LowestLong k D B l → LowestLong j E B l
lowest_of k j D E B l e f h = subst (λ (i : Side). LowestLong i E B l) e (subst (λ (P : Parts). LowestLong k P B l) f h)

-- what a search from slot 0 up says, where no rule lies past the last slot
pub lowest_found : (k : Side) (D : Parts) (B : Slots) (n : ℕ) → ((i : ℕ) → n ≤ i → B i ≡ None) → (r : Option ℕ)
    → MatchOption r ((i : ℕ) → 0 ≤ i → i < n → too_long k D (B i) ≡ false)
    (λ s. (0 ≤ s) × (s < n) × (too_long k D (B s) ≡ true) × ((i : ℕ) → 0 ≤ i → i < s → too_long k D (B i) ≡ false))
    → LowestLong k D B r
lowest_found k D B n empty None h = λ i. ⊎_elim (λ (e : i < n). h i (omega arith) e) (λ (e : n ≤ i). ap (too_long k D) (empty i e)) (before i n)
lowest_found k D B n empty (Some s) h = (h.2, λ i e. h.3 i (omega arith) e)
