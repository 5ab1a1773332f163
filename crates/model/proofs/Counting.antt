-- The size of a set: how one fact changes it, and its bounds.
use Rattle.std.proofs.Common.{◌≡◌, ℕ, suc, ◌+◌, ◌<◌, ◌≤◌, Bool, true, false, ◌&&◌, eqb, ap, ◌∙◌, ⊎_elim, arith}
use Rattle.std.proofs.lemmas.Bool.{ne_eqb, and_left, and_right, cases_Bool}
use Rattle.bits.specs.Total.{total, unit}
use Rattle.bits.proofs.Totals.{total-same, total-at, total-most, tally-most, total-none, total_front}
use Rattle.model.specs.Facts.{Facts, possible, same, placed}
use Rattle.model.specs.Sizes.{row_size, sort_size, size}
use Rattle.model.proofs.Possible.{parts}
use Rattle.model.proofs.Sets.{placed_here, placed_off}

module _ (S R : Facts) (s x y : ℕ) (hs : s < 7) (hx : x < 64) (hy : y < 64)
    (off : (a b c : ℕ) → same s x y a b c ≡ false → R a b c ≡ S a b c) where
  was : ℕ
  was = unit (possible s x y && S s x y)

  is : ℕ
  is = unit (possible s x y && R s x y)

  off_unit : (a b c : ℕ) → same s x y a b c ≡ false → unit (possible a b c && R a b c) ≡ unit (possible a b c && S a b c)
  off_unit a b c e = ap (λ (v : Bool). unit (possible a b c && v)) (off a b c e)

  row_off : row_size R s y + unit (possible s x y && S s x y) ≡ row_size S s y + unit (possible s x y && R s x y)
  row_off =
      total-at (λ b. unit (possible s b y && S s b y)) (λ b. unit (possible s b y && R s b y)) 64 x hx
      (λ b d. off_unit s b y (and_right (eqb s s) (eqb b x && eqb y y) (and_left (eqb b x) (eqb y y) (ne_eqb b x d))))

  sort_off : sort_size R s + unit (possible s x y && S s x y) ≡ sort_size S s + unit (possible s x y && R s x y)
  sort_off =
      let r = total-at (row_size S s) (row_size R s) 64 y hy
      (λ c d. total-same (λ b. unit (possible s b c && R s b c)) (λ b. unit (possible s b c && S s b c)) 64
      (λ b _. off_unit s b c (and_right (eqb s s) (eqb b x && eqb c y) (and_right (eqb b x) (eqb c y) (ne_eqb c y d))))) in
      omega (arith, row_off)

  pub size_off : size R + unit (possible s x y && S s x y) ≡ size S + unit (possible s x y && R s x y)
  unfolding size
  size_off =
      let r = total-at (sort_size S) (sort_size R) 7 s hs
      (λ a d. total-same (row_size R a) (row_size S a) 64
      (λ c _. total-same (λ b. unit (possible a b c && R a b c)) (λ b. unit (possible a b c && S a b c)) 64
      (λ b _. off_unit a b c (and_left (eqb a s) (eqb b x && eqb c y) (ne_eqb a s d))))) in
      omega (arith, sort_off)

-- one possible fact in or out changes the size by that fact
pub size-placed : (S : Facts) (s x y : ℕ) (v : Bool) → possible s x y ≡ true → size (placed S s x y v) + unit (S s x y) ≡ size S + unit v
size-placed S s x y v can =
    let p = parts s x y can in
    let e = size_off S (placed S s x y v) s x y p.sort p.lower p.upper (λ a b c. placed_off S s x y v a b c) in
    let old : unit (possible s x y && S s x y) ≡ unit (S s x y) = ap (λ (b : Bool). unit (b && S s x y)) can in
    let new : unit (possible s x y && placed S s x y v s x y) ≡ unit v = ap (λ (b : Bool). unit (b && placed S s x y v s x y)) can ∙ ap unit (placed_here S s x y v) in
    omega arith

pub size-put : (S : Facts) (s x y : ℕ) → possible s x y ≡ true → S s x y ≡ false → size (placed S s x y true) ≡ size S + 1
size-put S s x y can h =
    let e : unit (S s x y) ≡ 0 = ap unit h in
    omega (arith, size-placed S s x y true can)

pub size-drop : (S : Facts) (s x y : ℕ) → possible s x y ≡ true → S s x y ≡ true → size (placed S s x y false) + 1 ≡ size S
size-drop S s x y can h =
    let e : unit (S s x y) ≡ 1 = ap unit h in
    omega (arith, size-placed S s x y false can)

pub size_none : (S : Facts) → ((s x y : ℕ) → S s x y ≡ false) → size S ≡ 0
unfolding size
size_none S h =
    total-none (sort_size S) 7 (λ s. total-none (row_size S s) 64 (λ y. total-none (λ x. unit (possible s x y && S s x y)) 64
    (λ x. ap unit (and_right (possible s x y) (S s x y) (h s x y)))))

-- at most the 16,576 possible facts
row-most : (S : Facts) (s y : ℕ) → row_size S s y ≤ 64
row-most S s y = tally-most (λ x. possible s x y && S s x y) 64

pair_sort-most : (S : Facts) (s : ℕ) → sort_size S s ≤ 4096
pair_sort-most S s = total-most (row_size S s) 64 64 (row-most S s)

-- above y 0 no fact of the sorts 0 to 2 is possible
pub row-empty : (S : Facts) (s y : ℕ) → s < 3 → row_size S s (suc y) ≡ 0
row-empty S s y l = total-none (λ x. unit (possible s x (suc y) && S s x (suc y))) 64 (λ x. ap unit (and_left (possible s x (suc y)) (S s x (suc y)) (out x)))
  where
    out : (x : ℕ) → possible s x (suc y) ≡ false
    out x =
        ⊎_elim
        (λ e. absurd (⊎_elim (λ m. omega arith) (λ m. omega arith) (parts s x (suc y) e).pair))
        (λ e. e)
        (cases_Bool (possible s x (suc y)))

pub standing-size : (S : Facts) (s : ℕ) → s < 3 → sort_size S s ≡ row_size S s 0
standing-size S s l =
    let e = total-none (λ y. row_size S s (suc y)) 63 (λ y. row-empty S s y l) in
    let f = total_front (row_size S s) 63 in
    omega arith

standing-most : (S : Facts) (s : ℕ) → s < 3 → sort_size S s ≤ 64
standing-most S s l = omega (arith, standing-size S s l, row-most S s 0)

pub total_seven : (f : ℕ → ℕ) → total f 7 ≡ f 0 + f 1 + f 2 + f 3 + f 4 + f 5 + f 6
unfolding total
total_seven f = omega arith

pub size-most : (S : Facts) → size S ≤ 16576
unfolding size
size-most S =
    let at_most : (a b c d e f g : ℕ) → a ≤ 64 → b ≤ 64 → c ≤ 64 → d ≤ 4096 → e ≤ 4096 → f ≤ 4096 → g ≤ 4096 → a + b + c + d + e + f + g ≤ 16576 =
    λ a b c d e f g h0 h1 h2 h3 h4 h5 h6. omega arith in
    rw (total_seven (sort_size S))
    (at_most (sort_size S 0) (sort_size S 1) (sort_size S 2) (sort_size S 3) (sort_size S 4) (sort_size S 5) (sort_size S 6)
    (standing-most S 0 (omega arith)) (standing-most S 1 (omega arith)) (standing-most S 2 (omega arith))
    (pair_sort-most S 3) (pair_sort-most S 4) (pair_sort-most S 5) (pair_sort-most S 6))
