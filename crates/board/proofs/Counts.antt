-- The ones of all rows are the facts of the set.
use Rattle.std.proofs.Common.{◌≡◌, ℕ, ◌+◌, ◌*◌, ◌<◌, ◌≤◌, Bool, true, ◌&&◌, List, get_or, refl, ap, ◌∙◌, inl, inr, add-one, arith}
use Rattle.bits.specs.Bit.{bit}
use Rattle.bits.specs.Total.{total, unit, tally}
use Rattle.bits.proofs.Totals.{total-same, total_cut, total-most, tally-most}
use Rattle.model.specs.Facts.{possible}
use Rattle.model.specs.Sizes.{row_size, sort_size, size}
use Rattle.model.proofs.Possible.{whole}
use Rattle.model.proofs.Counting.{standing-size, total_seven}
use Rattle.board.specs.Rows.{marked, row_place}
use Rattle.board.proofs.Marks.{at}

-- the ones of the row at place i
abbrev pub ones_at : List ℕ → ℕ → ℕ
ones_at rows i = tally (bit (get_or rows i 0)) 64

pub few : (rows : List ℕ) (n : ℕ) → total (ones_at rows) n ≤ n * 64
few rows n = total-most (ones_at rows) 64 n (λ i. tally-most (bit (get_or rows i 0)) 64)

pub ones_more : (rows : List ℕ) (n : ℕ) → total (ones_at rows) (n + 1) ≡ total (ones_at rows) n + ones_at rows n
unfolding total
ones_more rows n = ap (total (ones_at rows)) (add-one n)

-- the facts of a row are its ones
row_ones : (rows : List ℕ) (s y : ℕ) → ((x : ℕ) → x < 64 → possible s x y ≡ true) → row_size (marked rows) s y ≡ ones_at rows (row_place s y)
row_ones rows s y can =
    total-same (λ x. unit (possible s x y && marked rows s x y)) (λ x. unit (bit (get_or rows (row_place s y) 0) x)) 64
    (λ x l. ap unit (ap (λ (b : Bool). b && marked rows s x y) (can x l) ∙ at rows s x y (can x l)))

standing_ones : (rows : List ℕ) (s : ℕ) → s < 3 → row_place s 0 ≡ s → sort_size (marked rows) s ≡ ones_at rows s
standing_ones rows s l p =
    standing-size (marked rows) s l
    ∙ row_ones rows s 0 (λ x m. whole s x 0 (record { sort = omega arith; lower = m; upper = omega arith; pair = inr refl }))
    ∙ ap (ones_at rows) p

pair_ones : (rows : List ℕ) (s m : ℕ) → 3 ≤ s → s < 7 → ((y : ℕ) → row_place s y ≡ m + y) → sort_size (marked rows) s ≡ total (λ y. ones_at rows (m + y)) 64
pair_ones rows s m l h p =
    total-same (row_size (marked rows) s) (λ y. ones_at rows (m + y)) 64
    (λ y u. row_ones rows s y (λ x v. whole s x y (record { sort = h; lower = v; upper = u; pair = inl l })) ∙ ap (ones_at rows) (p y))

total_three : (f : ℕ → ℕ) → total f 3 ≡ f 0 + f 1 + f 2
unfolding total
total_three f = omega arith

-- the rows in their order: three of standing, then 64 of each sort of pairs
blocks : (f : ℕ → ℕ) → total f 259 ≡ f 0 + f 1 + f 2 + total (λ y. f (3 + y)) 64 + total (λ y. f (67 + y)) 64 + total (λ y. f (131 + y)) 64 + total (λ y. f (195 + y)) 64
blocks f = omega (arith, total_three f, total_cut f 3 64, total_cut f 67 64, total_cut f 131 64, total_cut f 195 64)

pub ones_size : (rows : List ℕ) → total (ones_at rows) 259 ≡ size (marked rows)
unfolding size
ones_size rows =
    let e = total_seven (sort_size (marked rows)) in
    let b = blocks (ones_at rows) in
    sums (standing_ones rows 0 (omega arith) refl) (standing_ones rows 1 (omega arith) refl) (standing_ones rows 2 (omega arith) refl)
    (pair_ones rows 3 3 (omega arith) (omega arith) (λ y. refl)) (pair_ones rows 4 67 (omega arith) (omega arith) (λ y. refl))
    (pair_ones rows 5 131 (omega arith) (omega arith) (λ y. refl)) (pair_ones rows 6 195 (omega arith) (omega arith) (λ y. refl)) b e
  where
    sums : {a b c d e f g a' b' c' d' e' f' g' t t' : ℕ} → a ≡ a' → b ≡ b' → c ≡ c' → d ≡ d' → e ≡ e' → f ≡ f' → g ≡ g'
        → t ≡ a' + b' + c' + d' + e' + f' + g' → t' ≡ a + b + c + d + e + f + g → t ≡ t'
    sums h0 h1 h2 h3 h4 h5 h6 h h' = omega arith
