-- What rows say of facts, and what a written row changes.
use Rattle.std.proofs.Common.{◌≡◌, ℕ, zero, suc, ◌+◌, ◌-◌, ◌*◌, ◌^◌, ◌<◌, ◌≤◌, Bool, true, false, cond, not, ◌&&◌, ◌||◌, eqb, ltb, List, length, get_or, set, replicate, sym, refl, ap, ◌∙◌, ap₂, ⊎_elim, arith}
use Rattle.std.proofs.lemmas.List.{get_or-set_same, get_or-set_other}
use Rattle.std.proofs.lemmas.Bool.{eqb-true, eq-eqb, ne_eqb, cases_Bool, cases_eq, cases_lt, cond-true, cond-false, and_left, and_right, and_parts, and_from, or_left, or_right, lt-ltb, le-ltb, both_ways, true≢false}
use Rattle.bits.specs.Bit.{bit}
use Rattle.bits.proofs.Laws.{bit-none, bit_past}
use Rattle.model.specs.Facts.{Facts, possible, same, placed}
use Rattle.model.proofs.Possible.{Parts, parts, whole, not_same}
use Rattle.model.specs.Sizes.{size, takes}
use Rattle.model.proofs.Counting.{size-put, size-most}
use Rattle.model.proofs.Sets.{placed-is}
use Rattle.board.specs.Rows.{marked, row_place}

pub at : (rows : List ℕ) (s x y : ℕ) → possible s x y ≡ true → marked rows s x y ≡ bit (get_or rows (row_place s y) 0) x
unfolding marked
at rows s x y can = ap (λ b. b && bit (get_or rows (row_place s y) 0) x) can

pub not_at : (rows : List ℕ) (s x y : ℕ) → possible s x y ≡ false → marked rows s x y ≡ false
unfolding marked
not_at rows s x y h = and_left (possible s x y) (bit (get_or rows (row_place s y) 0) x) h

getD_zeros : (n k : ℕ) → ◌≡◌ {A = ℕ} (get_or (replicate n 0) k 0) 0
getD_zeros zero k = refl
getD_zeros (suc n) zero = refl
getD_zeros (suc n) (suc k) = getD_zeros n k

pub marked-none : (n s x y : ℕ) → marked (replicate n 0) s x y ≡ false
unfolding marked
marked-none n s x y =
    and_right (possible s x y) (bit (get_or (replicate n 0) (row_place s y) 0) x) (ap (λ (w : ℕ). bit w x) (getD_zeros n (row_place s y)) ∙ bit-none x)

place_low : (s y : ℕ) → s < 3 → row_place s y ≡ s
place_low s y l = cond-true (ltb s 3) s (3 + (s - 3) * 64 + y) (lt-ltb s 3 l)

place_high : (s y : ℕ) → 3 ≤ s → row_place s y ≡ 3 + (s - 3) * 64 + y
place_high s y l = cond-false (ltb s 3) s (3 + (s - 3) * 64 + y) (le-ltb s 3 l)

pub place_within : (s y : ℕ) → s < 7 → y < 64 → row_place s y < 259
place_within s y l m =
    ⊎_elim (λ (h : s < 3). omega (arith, place_low s y h)) (λ (h : 3 ≤ s). omega (arith, place_high s y h)) (cases_lt s 3)

-- two possible facts in one row have one sort and one upper number
one-row : (s x y a b c : ℕ) → possible s x y ≡ true → possible a b c ≡ true → row_place a c ≡ row_place s y → (a ≡ s) × (c ≡ y)
one-row s x y a b c p q e =
    let f = parts s x y p in
    let g = parts a b c q in
    let f2 = f.upper in
    let g2 = g.upper in
    ⊎_elim
    (λ (h : s < 3). ⊎_elim
    (λ (k : a < 3). let u = place_low s y h in let v = place_low a c k in (omega arith, flat s x y a b c f g h k))
    (λ (k : 3 ≤ a). let u = place_low s y h in let v = place_high a c k in absurd (omega arith)) (cases_lt a 3))
    (λ (h : 3 ≤ s). ⊎_elim
    (λ (k : a < 3). let u = place_high s y h in let v = place_low a c k in absurd (omega arith))
    (λ (k : 3 ≤ a). let u = place_high s y h in let v = place_high a c k in (omega arith, omega arith)) (cases_lt a 3))
    (cases_lt s 3)
  where
    zero-upper : (s x y : ℕ) → Parts s x y → s < 3 → y ≡ 0
    zero-upper s x y p l = ⊎_elim (λ h. absurd (omega arith)) (λ h. h) p.pair

    flat : (s x y a b c : ℕ) → Parts s x y → Parts a b c → s < 3 → a < 3 → c ≡ y
    flat s x y a b c f g h k = zero-upper a b c g k ∙ sym (zero-upper s x y f h)

-- a row that differs in one number makes the set differ in one fact
pub write : (rows : List ℕ) (s x y : ℕ) (v : Bool) (w : ℕ) → possible s x y ≡ true → row_place s y < length rows
    → ((k : ℕ) → bit w k ≡ cond (eqb k x) v (bit (get_or rows (row_place s y) 0) k))
    → marked (set rows (row_place s y) w) ≡ placed (marked rows) s x y v
write rows s x y v w can l h =
    placed-is (marked rows) (marked rows') s x y v
    (at rows' s x y can ∙ ap (λ (z : ℕ). bit z x) word ∙ h x ∙ cond-true (eqb x x) v (bit (get_or rows (row_place s y) 0) x) (eq-eqb x x refl))
    (λ a b c e. ⊎_elim
    (λ p. at rows' a b c p ∙ cell a b c e p ∙ sym (at rows a b c p))
    (λ p. not_at rows' a b c p ∙ sym (not_at rows a b c p))
    (cases_Bool (possible a b c)))
  where
    rows' : List ℕ
    rows' = set rows (row_place s y) w

    word : get_or (set rows (row_place s y) w) (row_place s y) 0 ≡ w
    word = get_or-set_same rows (row_place s y) w 0 l

    cell : (a b c : ℕ) → same s x y a b c ≡ false → possible a b c ≡ true
        → bit (get_or (set rows (row_place s y) w) (row_place a c) 0) b ≡ bit (get_or rows (row_place a c) 0) b
    cell a b c e p =
        ⊎_elim
        (λ (q : row_place a c ≡ row_place s y).
        let r = one-row s x y a b c can p q in
        ap (λ (z : ℕ). bit (get_or (set rows (row_place s y) w) z 0) b) q ∙ ap (λ (z : ℕ). bit z b) word ∙ h b
        ∙ cond-false (eqb b x) v (bit (get_or rows (row_place s y) 0) b) (ne_eqb b x (λ eb. not_same s x y a b c e r.0 eb r.1))
        ∙ ap (λ (z : ℕ). bit (get_or rows z 0) b) (sym q))
        (λ d. ap (λ (z : ℕ). bit z b) (get_or-set_other rows (row_place s y) (row_place a c) w 0 d))
        (cases_eq (row_place a c) (row_place s y))

-- a row answers for every number, and has none past its width
pub row_at : (rows : List ℕ) (s y : ℕ) → possible s 0 y ≡ true → get_or rows (row_place s y) 0 < 2 ^ 64
    → (x : ℕ) → bit (get_or rows (row_place s y) 0) x ≡ marked rows s x y
row_at rows s y can fits x =
    ⊎_elim
    (λ (l : x < 64). sym (at rows s x y (whole s x y (let p = parts s 0 y can in record { sort = p.sort; lower = l; upper = p.upper; pair = p.pair }))))
    (λ (l : 64 ≤ x). bit_past (get_or rows (row_place s y) 0) 64 x fits l ∙ sym (not_at rows s x y (far x l)))
    (cases_lt x 64)
  where
    far : (x : ℕ) → 64 ≤ x → possible s x y ≡ false
    far x l = ⊎_elim (λ e. let m = (parts s x y e).lower in absurd (omega arith)) (λ e. e) (cases_Bool (possible s x y))

-- where no fact has x 0 none is possible
pub row-none : (rows : List ℕ) (s y : ℕ) → possible s 0 y ≡ false → (x : ℕ) → marked rows s x y ≡ false
row-none rows s y h x =
    not_at rows s x y
    (⊎_elim
    (λ e. let p = parts s x y e in
    absurd (both_ways (possible s 0 y) h (whole s 0 y (record { sort = p.sort; lower = omega arith; upper = p.upper; pair = p.pair }))))
    (λ e. e)
    (cases_Bool (possible s x y)))

-- with and without, as one write
pub with-cond : (a e l : Bool) → l ≡ true → (a || (e && l)) ≡ cond e true a
with-cond true true true h = refl
with-cond true false true h = refl
with-cond false true true h = refl
with-cond false false true h = refl
with-cond a e false h = absurd (true≢false (sym h))

pub without-cond : (a e : Bool) → (a && not e) ≡ cond e false a
without-cond true true = refl
without-cond true false = refl
without-cond false true = refl
without-cond false false = refl

-- a choice between equals is no choice
pub either_way : {A : Type 0} (b : Bool) (x : A) → x ≡ cond b x x
either_way true x = refl
either_way false x = refl

-- there is room for every possible fact
pub takes-possible : (S : Facts) (s x y : ℕ) → possible s x y ≡ true → takes S 16576 s x y ≡ true
takes-possible S s x y can =
    and_from (possible s x y) (S s x y || ltb (size S) 16576) can
    (⊎_elim
    (λ e. or_left (S s x y) (ltb (size S) 16576) e)
    (λ e. or_right (S s x y) (ltb (size S) 16576) (lt-ltb (size S) 16576
    (let a = size-put S s x y can e in let b = size-most (placed S s x y true) in omega arith)))
    (cases_Bool (S s x y)))

-- a row that is written whole
pub overwritten : (rows : List ℕ) (s y w : ℕ) → possible s 0 y ≡ true → row_place s y < length rows
    → (a b c : ℕ) → marked (set rows (row_place s y) w) a b c ≡ cond (eqb a s && eqb c y) (possible a b c && bit w b) (marked rows a b c)
unfolding marked
overwritten rows s y w can l a b c =
    ⊎_elim
    (λ (p : possible a b c ≡ true). ⊎_elim
    (λ (q : row_place a c ≡ row_place s y).
    let r = one-row s 0 y a b c can p q in
    ap (λ (i : ℕ). possible a b c && bit (get_or (set rows (row_place s y) w) i 0) b) q
    ∙ ap (λ (v : ℕ). possible a b c && bit v b) (get_or-set_same rows (row_place s y) w 0 l)
    ∙ sym (cond-true (eqb a s && eqb c y) _ _ (and_from (eqb a s) (eqb c y) (eq-eqb a s r.0) (eq-eqb c y r.1))))
    (λ (d : row_place a c ≡ row_place s y → ⊥).
    ap (λ (v : ℕ). possible a b c && bit v b) (get_or-set_other rows (row_place s y) (row_place a c) w 0 d)
    ∙ sym (cond-false (eqb a s && eqb c y) _ _ (elsewhere (λ ea ec. d (ap₂ row_place ea ec)))))
    (cases_eq (row_place a c) (row_place s y)))
    (λ (p : possible a b c ≡ false).
    and_left (possible a b c) _ p ∙ sym (either-false (eqb a s && eqb c y) _ _ (and_left (possible a b c) (bit w b) p) (and_left (possible a b c) _ p)))
    (cases_Bool (possible a b c))
  where
    elsewhere : (a ≡ s → c ≡ y → ⊥) → (eqb a s && eqb c y) ≡ false
    elsewhere d =
        ⊎_elim (λ (e : a ≡ s). and_right (eqb a s) (eqb c y) (ne_eqb c y (d e))) (λ (n : a ≡ s → ⊥). and_left (eqb a s) (eqb c y) (ne_eqb a s n)) (cases_eq a s)

    either-false : (t u v : Bool) → u ≡ false → v ≡ false → cond t u v ≡ false
    either-false true u v p q = p
    either-false false u v p q = q

-- a row of which no fact is possible has none to write
pub not_written : (rows : List ℕ) (s y w : ℕ) → possible s 0 y ≡ false → (a b c : ℕ) → marked rows a b c ≡ cond (eqb a s && eqb c y) (possible a b c && bit w b) (marked rows a b c)
not_written rows s y w never a b c =
    ⊎_elim
    (λ (h : (eqb a s && eqb c y) ≡ true).
    let p = and_parts (eqb a s) (eqb c y) h in
    let ea = eqb-true a s p.0 in
    let ec = eqb-true c y p.1 in
    let same : marked rows a b c ≡ marked rows s b y = cc in
    let out : possible a b c ≡ false = impossible a b c ea ec in
    same ∙ row-none rows s y never b ∙ sym (cond-true (eqb a s && eqb c y) _ _ h ∙ and_left (possible a b c) (bit w b) out))
    (λ (h : (eqb a s && eqb c y) ≡ false). sym (cond-false (eqb a s && eqb c y) _ _ h))
    (cases_Bool (eqb a s && eqb c y))
  where
    impossible : (a b c : ℕ) → a ≡ s → c ≡ y → possible a b c ≡ false
    impossible a b c ea ec =
        ⊎_elim
        (λ e. let p = parts a b c e in
        let zero : possible a 0 c ≡ true = whole a 0 c (record { sort = p.sort; lower = omega arith; upper = p.upper; pair = p.pair }) in
        let same : possible a 0 c ≡ possible s 0 y = cc in
        absurd (both_ways (possible s 0 y) never (sym same ∙ zero)))
        (λ e. e)
        (cases_Bool (possible a b c))
