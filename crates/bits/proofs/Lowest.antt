-- The zeros at the low end of a word end at the lowest number in its set.
use Rattle.std.proofs.Common.{◌≡◌, ℕ, zero, suc, ◌/◌, ◌%◌, ◌<◌, true, false, sym, ap, ◌∙◌, subst, ⊎_elim, le_of_suc-le-suc, not-suc-le-zero, arith}
use lib.Count.{count_trailing_zeros, under}
use Rattle.std.proofs.lemmas.Bool.{eqb-true, eqb-false, cases_Bool}
use Rattle.bits.specs.Bit.{bit}
use Rattle.bits.proofs.Laws.{bit_low, bit_half}

-- an odd word begins with a one; an even one begins with a zero, and goes on as its half does
odd : (k w : ℕ) → bit w 0 ≡ true → count_trailing_zeros (suc k) w ≡ 0
unfolding count_trailing_zeros
odd k w h = ap (λ (d : ℕ). under d (count_trailing_zeros k (w / 2))) (eqb-true (w % 2) 1 (sym (bit_low w) ∙ h))

even : (k w : ℕ) → bit w 0 ≡ false → count_trailing_zeros (suc k) w ≡ suc (count_trailing_zeros k (w / 2))
unfolding count_trailing_zeros
even k w h =
    let n = eqb-false (w % 2) 1 (sym (bit_low w) ∙ h) in
    let z : w % 2 ≡ 0 = omega arith in
    ap (λ (d : ℕ). under d (count_trailing_zeros k (w / 2))) z

-- no number below the zeros' end is in the set
pub below-lowest : (k w i : ℕ) → i < count_trailing_zeros k w → bit w i ≡ false
unfolding count_trailing_zeros
below-lowest zero w i h = absurd (not-suc-le-zero h)
below-lowest (suc k) w zero h =
    ⊎_elim (λ (e : bit w 0 ≡ true). absurd (not-suc-le-zero (subst (λ (n : ℕ). 0 < n) (odd k w e) h))) (λ e. e) (cases_Bool (bit w 0))
below-lowest (suc k) w (suc i) h =
    ⊎_elim
    (λ (e : bit w 0 ≡ true). absurd (not-suc-le-zero (subst (λ (n : ℕ). suc i < n) (odd k w e) h)))
    (λ (e : bit w 0 ≡ false). sym (bit_half w i) ∙ below-lowest k (w / 2) i (le_of_suc-le-suc (subst (λ (n : ℕ). suc i < n) (even k w e) h)))
    (cases_Bool (bit w 0))

-- where some number below k is in the set, the zeros end at one
pub at-lowest : (k w i : ℕ) → i < k → bit w i ≡ true → bit w (count_trailing_zeros k w) ≡ true
at-lowest zero w i l h = absurd (not-suc-le-zero l)
at-lowest (suc k) w zero l h = ap (bit w) (odd k w h) ∙ h
at-lowest (suc k) w (suc i) l h =
    let half = at-lowest k (w / 2) i (le_of_suc-le-suc l) (bit_half w i ∙ h) in
    ⊎_elim (λ (e : bit w 0 ≡ true). ap (bit w) (odd k w e) ∙ e)
    (λ (e : bit w 0 ≡ false). ap (bit w) (even k w e) ∙ sym (bit_half w (count_trailing_zeros k (w / 2))) ∙ half)
    (cases_Bool (bit w 0))
