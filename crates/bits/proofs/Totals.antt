-- The laws of sums.
use Rattle.std.proofs.Common.{◌≡◌, ℕ, zero, suc, ◌+◌, ◌*◌, ◌<◌, ◌≤◌, Bool, true, false, sym, refl, ap, ◌∙◌, ap₂, ⊎_elim, not-suc-le-zero, add-zero, add-suc, suc-mul, arith}
use Rattle.std.proofs.lemmas.Bool.{cases_eq}
use Rattle.bits.specs.Total.{total, unit, tally}

pub total-same : (f g : ℕ → ℕ) (n : ℕ) → ((k : ℕ) → k < n → f k ≡ g k) → total f n ≡ total g n
unfolding total
total-same f g zero h = refl
total-same f g (suc n) h = ap₂ ◌+◌ (total-same f g n (λ k l. h k (omega arith))) (h n (omega arith))

-- two sums that differ in one place differ by that place
pub total-at : (f g : ℕ → ℕ) (n i : ℕ) → i < n → ((k : ℕ) → (k ≡ i → ⊥) → g k ≡ f k) → total g n + f i ≡ total f n + g i
unfolding total
total-at f g zero i l h = absurd (not-suc-le-zero l)
total-at f g (suc n) i l h =
    ⊎_elim
    (λ (e : i ≡ n). let s : total g n ≡ total f n = total-same g f n (λ k m. h k (omega arith)) in
    let p : f i ≡ f n = ap f e in let q : g i ≡ g n = ap g e in omega arith)
    (λ (d : i ≡ n → ⊥). let r = total-at f g n i (omega arith) h in let p = h n (λ e. d (sym e)) in omega arith)
    (cases_eq i n)

-- a sum of terms of at most m each
pub total-most : (f : ℕ → ℕ) (m n : ℕ) → ((k : ℕ) → f k ≤ m) → total f n ≤ n * m
unfolding total
total-most f m zero h = omega arith
total-most f m (suc n) h = let r = total-most f m n h in let q = h n in omega (arith, suc-mul n m)

-- no more numbers pass than there are
pub tally-most : (f : ℕ → Bool) (n : ℕ) → tally f n ≤ n
tally-most f n = omega (arith, total-most (λ k. unit (f k)) 1 n (λ k. le_one (f k)))
  where
    le_one : (b : Bool) → unit b ≤ 1
    le_one true = omega arith
    le_one false = omega arith

pub total-none : (f : ℕ → ℕ) (n : ℕ) → ((k : ℕ) → f k ≡ 0) → total f n ≡ 0
unfolding total
total-none f zero h = refl
total-none f (suc n) h = let r = total-none f n h in let q = h n in omega arith

-- a set that lost one number has fewer
pub tally_less : (old new : ℕ → Bool) (n i : ℕ) → i < n → old i ≡ true → new i ≡ false → ((k : ℕ) → (k ≡ i → ⊥) → new k ≡ old k) → tally new n < tally old n
tally_less old new n i l was is off =
    let e = total-at (λ k. unit (old k)) (λ k. unit (new k)) n i l (λ k d. ap unit (off k d)) in
    let p : unit (old i) ≡ 1 = ap unit was in
    let q : unit (new i) ≡ 0 = ap unit is in
    omega arith

-- the first term apart
pub total_front : (f : ℕ → ℕ) (n : ℕ) → total f (suc n) ≡ f 0 + total (λ k. f (suc k)) n
unfolding total
total_front f zero = omega arith
total_front f (suc n) = omega (arith, total_front f n)

-- the first m terms apart
pub total_cut : (f : ℕ → ℕ) (m n : ℕ) → total f (m + n) ≡ total f m + total (λ k. f (m + k)) n
unfolding total
total_cut f m zero = ap (total f) (add-zero m) ∙ sym (add-zero (total f m))
total_cut f m (suc n) =
    ap (total f) (add-suc m n) ∙ ap (λ (x : ℕ). x + f (m + n)) (total_cut f m n) ∙ omega arith
