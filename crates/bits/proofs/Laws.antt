-- The laws of single bits.
use Rattle.std.proofs.Common.{◌≡◌, ℕ, zero, suc, ◌-◌, ◌*◌, ◌/◌, ◌%◌, ◌^◌, ◌<◌, ◌≤◌, Bool, true, false, not, ◌&&◌, ◌||◌, eqb, sym, refl, ap, ◌∙◌, ⊎_elim, le_of_suc-le-suc, not-suc-le-zero, mod-lt, mod-eq_of_lt, mul_comm, pow-suc, div-one, mul-div_cancel, arith, pow_pos, pow_mono}
use native.Mathlib.Nat.{div-div-eq-div-mul, div-eq_of_lt, zero-div, mul-mod_left}
use lib.Dec.{eqb-suc-suc}
use lib.Bits.{bit_and, bit_or, bit_xor, and_shr, or_shr, xor_shr, and_mod, or_mod, xor_mod, and_mask, xor_add_and, or_add_and, and_le_r}
use lib.Arith.{bin_ind, dbl_pred, digits_mod, digits_div}
use Rattle.std.proofs.lemmas.Bool.{eqb-true, eqb-false, ne_eqb, cases_Bool, cases_eq, both_ways, cases_lt, not-true, not-false, and_parts, and_from, and_left}
use Rattle.std.proofs.lemmas.Nat.{one_shl, pow_below}
use Rattle.std.proofs.lemmas.Bool.Decides.{nat_tests}
use Rattle.bits.specs.Bit.{bit}

not_digit {ℓ} : {A : Type ℓ} {x : ℕ} → suc (suc x) < 2 → A
not_digit h = absurd (not-suc-le-zero (le_of_suc-le-suc (le_of_suc-le-suc h)))

two_pos : 0 < 2
two_pos = omega arith

and_digit : (x y : ℕ) → x < 2 → y < 2 → eqb (bit_and x y) 1 ≡ (eqb x 1 && eqb y 1)
and_digit zero y hx hy = refl
and_digit (suc zero) zero hx hy = refl
and_digit (suc zero) (suc zero) hx hy = refl
and_digit (suc zero) (suc (suc y)) hx hy = not_digit hy
and_digit (suc (suc x)) y hx hy = not_digit hx

or_digit : (x y : ℕ) → x < 2 → y < 2 → eqb (bit_or x y) 1 ≡ (eqb x 1 || eqb y 1)
or_digit zero y hx hy = refl
or_digit (suc zero) zero hx hy = refl
or_digit (suc zero) (suc zero) hx hy = refl
or_digit (suc zero) (suc (suc y)) hx hy = not_digit hy
or_digit (suc (suc x)) y hx hy = not_digit hx

-- one of the two and not both
abbrev pub apart : Bool → Bool → Bool
apart true b = not b
apart false b = b

xor_digit : (x y : ℕ) → x < 2 → y < 2 → eqb (bit_xor x y) 1 ≡ apart (eqb x 1) (eqb y 1)
xor_digit zero y hx hy = refl
xor_digit (suc zero) zero hx hy = refl
xor_digit (suc zero) (suc zero) hx hy = refl
xor_digit (suc zero) (suc (suc y)) hx hy = not_digit hy
xor_digit (suc (suc x)) y hx hy = not_digit hx

pub bit-and : (a b i : ℕ) → bit (bit_and a b) i ≡ (bit a i && bit b i)
unfolding bit
bit-and a b i =
    ap (λ (x : ℕ). eqb (x % 2) 1) (and_shr a b i) ∙ ap (λ (x : ℕ). eqb x 1) (and_mod (a / 2 ^ i) (b / 2 ^ i) 1)
    ∙ and_digit (a / 2 ^ i % 2) (b / 2 ^ i % 2) (mod-lt (a / 2 ^ i) two_pos) (mod-lt (b / 2 ^ i) two_pos)

pub bit-or : (a b i : ℕ) → bit (bit_or a b) i ≡ (bit a i || bit b i)
unfolding bit
bit-or a b i =
    ap (λ (x : ℕ). eqb (x % 2) 1) (or_shr a b i) ∙ ap (λ (x : ℕ). eqb x 1) (or_mod (a / 2 ^ i) (b / 2 ^ i) 1)
    ∙ or_digit (a / 2 ^ i % 2) (b / 2 ^ i % 2) (mod-lt (a / 2 ^ i) two_pos) (mod-lt (b / 2 ^ i) two_pos)

pub bit-xor : (a b i : ℕ) → bit (bit_xor a b) i ≡ apart (bit a i) (bit b i)
unfolding bit
bit-xor a b i =
    ap (λ (x : ℕ). eqb (x % 2) 1) (xor_shr a b i) ∙ ap (λ (x : ℕ). eqb x 1) (xor_mod (a / 2 ^ i) (b / 2 ^ i) 1)
    ∙ xor_digit (a / 2 ^ i % 2) (b / 2 ^ i % 2) (mod-lt (a / 2 ^ i) two_pos) (mod-lt (b / 2 ^ i) two_pos)

pub bit-none : (i : ℕ) → bit 0 i ≡ false
unfolding bit
bit-none i = ap (λ (x : ℕ). eqb (x % 2) 1) (zero-div (2 ^ i))

-- bit 0 is the lowest digit, and bit i + 1 is bit i of the half
pub bit_low : (w : ℕ) → bit w 0 ≡ eqb (w % 2) 1
unfolding bit
bit_low w = ap (λ (x : ℕ). eqb (x % 2) 1) (div-one w)

pub bit_half : (w i : ℕ) → bit (w / 2) i ≡ bit w (suc i)
unfolding bit
bit_half w i =
    ap (λ (x : ℕ). eqb (x % 2) 1) (div-div-eq-div-mul w 2 (2 ^ i)
    ∙ ap (λ (x : ℕ). w / x) (mul_comm 2 (2 ^ i) ∙ sym (pow-suc 2 i)))

-- no bit past the word's width
pub bit_past : (w k i : ℕ) → w < 2 ^ k → k ≤ i → bit w i ≡ false
unfolding bit
bit_past w k i h l =
    let p : 2 ^ k ≤ 2 ^ i = pow_mono l in
    let q : w < 2 ^ i = omega arith in
    ap (λ (x : ℕ). eqb (x % 2) 1) (div-eq_of_lt q)

-- the word of one bit
pub bit-one : (k i : ℕ) → bit (2 ^ k) i ≡ eqb i k
bit-one zero zero = bit_low 1
bit-one zero (suc i) = bit_past 1 1 (suc i) (omega arith) (omega arith) ∙ sym (ne_eqb (suc i) 0 (omega arith))
bit-one (suc k) zero =
    bit_low (2 ^ suc k) ∙ ap (λ (x : ℕ). eqb (x % 2) 1) (pow-suc 2 k) ∙ ap (λ (x : ℕ). eqb x 1) (mul-mod_left (2 ^ k) 2)
    ∙ sym (ne_eqb 0 (suc k) (omega arith))
bit-one (suc k) (suc i) =
    sym (bit_half (2 ^ suc k) i) ∙ ap (λ (x : ℕ). bit x i) (ap (λ (x : ℕ). x / 2) (pow-suc 2 k) ∙ mul-div_cancel (2 ^ k) two_pos)
    ∙ bit-one k i ∙ sym (eqb-suc-suc i k)

-- all of the k lowest bits
pub bit_all : (k i : ℕ) → i < k → bit (2 ^ k - 1) i ≡ true
bit_all zero i h = absurd (not-suc-le-zero h)
bit_all (suc k) zero h =
    bit_low (2 ^ suc k - 1) ∙ ap (λ (x : ℕ). eqb (x % 2) 1) (ap (λ (x : ℕ). x - 1) (pow-suc 2 k) ∙ dbl_pred (pow_pos k))
    ∙ ap (λ (x : ℕ). eqb x 1) (digits_mod (2 ^ k - 1) (omega arith))
bit_all (suc k) (suc i) h =
    sym (bit_half (2 ^ suc k - 1) i)
    ∙ ap (λ (x : ℕ). bit x i) (ap (λ (x : ℕ). (x - 1) / 2) (pow-suc 2 k) ∙ ap (λ (x : ℕ). x / 2) (dbl_pred (pow_pos k)) ∙ digits_div (2 ^ k - 1) (omega arith))
    ∙ bit_all k i (le_of_suc-le-suc h)

-- `!w` at a type of k bits
pub not_is_xor : (k w : ℕ) → w < 2 ^ k → 2 ^ k - 1 - w ≡ bit_xor w (2 ^ k - 1)
not_is_xor k w h =
    let m : bit_and w (2 ^ k - 1) ≡ w = and_mask w k ∙ mod-eq_of_lt h in
    omega (arith, xor_add_and w (2 ^ k - 1), m)

pub bit_not : (k w i : ℕ) → w < 2 ^ k → i < k → bit (2 ^ k - 1 - w) i ≡ not (bit w i)
bit_not k w i h l =
    ap (λ (x : ℕ). bit x i) (not_is_xor k w h) ∙ bit-xor w (2 ^ k - 1) i ∙ ap (apart (bit w i)) (bit_all k i l) ∙ flip (bit w i)
  where
    flip : (b : Bool) → apart b true ≡ not b
    flip true = refl
    flip false = refl

-- a word that is not 0 has a bit that is set
pub bit-some : (w : ℕ) → (w ≡ 0 → ⊥) → (i : ℕ) × (bit w i ≡ true)
bit-some =
    bin_ind (λ (w : ℕ). (w ≡ 0 → ⊥) → (i : ℕ) × (bit w i ≡ true)) (λ h. absurd (h refl)) (λ w ih h.
    ⊎_elim (λ e. (0, bit_low w ∙ e))
    (λ e. let r = ih (λ z. h (low w z e)) in (suc r.0, sym (bit_half w r.0) ∙ r.1))
    (cases_Bool (eqb (w % 2) 1)))
  where
    low : (w : ℕ) → w / 2 ≡ 0 → eqb (w % 2) 1 ≡ false → w ≡ 0
    low w z e = omega (arith, eqb-false (w % 2) 1 e)

-- where not every number is out, one is in
pub some_in : (w : ℕ) → (((k : ℕ) → bit w k ≡ false) → ⊥) → (i : ℕ) × (bit w i ≡ true)
some_in w h = bit-some w (λ z. h (λ k. ap (λ (v : ℕ). bit v k) z ∙ bit-none k))

-- words with the same bits are the same
pub bit-same : (a b : ℕ) → ((i : ℕ) → bit a i ≡ bit b i) → a ≡ b
bit-same =
    bin_ind (λ (a : ℕ). (b : ℕ) → ((i : ℕ) → bit a i ≡ bit b i) → a ≡ b) zeros (λ a ih b h.
    let hi : a / 2 ≡ b / 2 = ih (b / 2) (λ i. bit_half a i ∙ h (suc i) ∙ sym (bit_half b i)) in
    let lo : eqb (a % 2) 1 ≡ eqb (b % 2) 1 = sym (bit_low a) ∙ h 0 ∙ bit_low b in
    let d : a % 2 ≡ b % 2 = grind (arith, nat_tests) in
    omega arith)
  where
    zeros : (b : ℕ) → ((i : ℕ) → bit 0 i ≡ bit b i) → 0 ≡ b
    zeros b h = ⊎_elim (λ e. sym e) (λ n. let r = bit-some b n in absurd (both_ways (bit b r.0) (sym (h r.0) ∙ bit-none r.0) r.1)) (cases_eq b 0)

pub le_or : (a b : ℕ) → a ≤ bit_or a b
le_or a b = omega (arith, or_add_and a b, and_le_r a b)

-- `a & !b` at a type of n bits
pub bit-minus : (n a b k : ℕ) → a < 2 ^ n → b < 2 ^ n → bit (bit_and a (2 ^ n - 1 - b)) k ≡ (bit a k && not (bit b k))
bit-minus n a b k ha hb =
    bit-and a (2 ^ n - 1 - b) k ∙ ⊎_elim
    (λ (l : k < n). ap (λ x. bit a k && x) (bit_not n b k hb l))
    (λ (l : n ≤ k). let z = bit_past a n k ha l in ap (λ x. x && bit (2 ^ n - 1 - b) k) z ∙ sym (ap (λ x. x && not (bit b k)) z))
    (cases_lt k n)

pub bit_below : (w n k : ℕ) → w < 2 ^ n → bit w k ≡ true → k < n
bit_below w n k l h = ⊎_elim (λ m. m) (λ (m : n ≤ k). absurd (both_ways (bit w k) (bit_past w n k l m) h)) (cases_lt k n)

pub and-true : (a b : Bool) → b ≡ true → (a && b) ≡ a
and-true true b h = h
and-true false b h = refl

-- a number past the word's width is not in it, and so need not be taken out
pub bit_absent : (n w i k : ℕ) → w < 2 ^ n → n ≤ i → bit w k ≡ (bit w k && not (eqb k i))
bit_absent n w i k h l =
    ⊎_elim
    (λ (e : bit w k ≡ true). let m = bit_below w n k h e in
    sym (and-true (bit w k) (not (eqb k i)) (ap not (ne_eqb k i (omega arith)))))
    (λ (e : bit w k ≡ false). e ∙ sym (and_left (bit w k) (not (eqb k i)) e))
    (cases_Bool (bit w k))

-- `w | 1 << i` and `w & !(1 << i)`
pub bit-with : (n w i k : ℕ) → i < n → bit (bit_or w ((1 * 2 ^ i) % 2 ^ n)) k ≡ (bit w k || eqb k i)
bit-with n w i k h = ap (λ (x : ℕ). bit (bit_or w x) k) (one_shl i n h) ∙ bit-or w (2 ^ i) k ∙ ap (λ x. bit w k || x) (bit-one i k)

pub bit-without : (n w i k : ℕ) → w < 2 ^ n → i < n → bit (bit_and w (2 ^ n - 1 - ((1 * 2 ^ i) % 2 ^ n))) k ≡ (bit w k && not (eqb k i))
bit-without n w i k hw h =
    ap (λ (x : ℕ). bit (bit_and w (2 ^ n - 1 - x)) k) (one_shl i n h) ∙ bit-minus n w (2 ^ i) k hw (pow_below i n h)
    ∙ ap (λ x. bit w k && not x) (bit-one i k)

-- `a & b != 0`
pub meet_some : (n a b : ℕ) → a < 2 ^ n → not (eqb (bit_and a b) 0) ≡ true → (k : ℕ) × (k < n) × (bit a k ≡ true) × (bit b k ≡ true)
meet_some n a b l h =
    let r = bit-some (bit_and a b) (eqb-false (bit_and a b) 0 (not-true (eqb (bit_and a b) 0) h)) in
    let p = and_parts (bit a r.0) (bit b r.0) (sym (bit-and a b r.0) ∙ r.1) in
    (r.0, bit_below a n r.0 l p.0, p.0, p.1)

pub meet_none : (a b : ℕ) → not (eqb (bit_and a b) 0) ≡ false → (k : ℕ) → bit a k ≡ true → bit b k ≡ true → ⊥
meet_none a b h k p q =
    let z : bit_and a b ≡ 0 = eqb-true (bit_and a b) 0 (not-false (eqb (bit_and a b) 0) h) in
    both_ways (bit (bit_and a b) k) (ap (λ (x : ℕ). bit x k) z ∙ bit-none k) (bit-and a b k ∙ and_from (bit a k) (bit b k) p q)

-- a word whose bits all stand in another is not above it
pub subset_le : (a b : ℕ) → ((k : ℕ) → bit a k ≡ true → bit b k ≡ true) → a ≤ b
subset_le =
    bin_ind (λ (a : ℕ). (b : ℕ) → ((k : ℕ) → bit a k ≡ true → bit b k ≡ true) → a ≤ b) (λ b h. omega arith) (λ a ih b h.
    let hi : a / 2 ≤ b / 2 = ih (b / 2) (λ k e. bit_half b k ∙ h (suc k) (sym (bit_half a k) ∙ e)) in
    let lo : a % 2 ≤ b % 2 = ⊎_elim
    (λ (e : eqb (a % 2) 1 ≡ true). let p = eqb-true (b % 2) 1 (sym (bit_low b) ∙ h 0 (bit_low a ∙ e)) in omega (arith, eqb-true (a % 2) 1 e))
    (λ (e : eqb (a % 2) 1 ≡ false). omega (arith, eqb-false (a % 2) 1 e))
    (cases_Bool (eqb (a % 2) 1)) in
    omega arith)
