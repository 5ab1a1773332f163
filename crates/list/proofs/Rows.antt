-- One word more in the pass that gathers a row.
use Rattle.std.proofs.Common.{◌≡◌, ℕ, ◌+◌, ◌/◌, ◌%◌, Bool, true, false, ◌&&◌, ◌||◌, eqb, ltb, List, get_or, Decides, sym, ap, ◌∙◌, add-one, arith}
use Rattle.std.proofs.lemmas.Bool.{and_parts, and_from, eqb-true, eq-eqb, lt-ltb, false_from_ne_true}
use Rattle.std.proofs.lemmas.Bool.Decides.{same_from_decides, Decides-like, nat_tests}
use Rattle.std.proofs.Math.Bool.{or-false}
use Rattle.model.specs.Facts.{possible, fact_word}
use Rattle.list.specs.Words.{among, listed}
use Rattle.list.proofs.Listings.{tells_fact, word_of_parts}

-- the fact's word is w
abbrev is_word : ℕ → ℕ → ℕ → ℕ → Bool
is_word w s x y = possible s x y && eqb w (fact_word s x y)

pub listed_more : (ws : List ℕ) (i s x y : ℕ) → listed ws (i + 1) s x y ≡ (listed ws i s x y || is_word (get_or ws i 0) s x y)
unfolding listed among
listed_more ws i s x y =
    ap (λ (n : ℕ). possible s x y && among ws (fact_word s x y) n) (add-one i) ∙ grind (arith, nat_tests)

-- the word of a fact tells its sort and numbers
told : (w s x y : ℕ) → is_word w s x y ≡ true → (w / 4096 ≡ s) × (w / 64 % 64 ≡ x) × (w % 64 ≡ y)
told w s x y h =
    let p = and_parts (possible s x y) (eqb w (fact_word s x y)) h in
    let t = tells_fact s x y p.0 in
    let e : w ≡ fact_word s x y = eqb-true w (fact_word s x y) p.1 in
    (ap (λ (v : ℕ). v / 4096) e ∙ t.sort, ap (λ (v : ℕ). v / 64 % 64) e ∙ t.lower, ap (λ (v : ℕ). v % 64) e ∙ t.upper)

-- a possible fact's word is that of the fact with its sort and numbers
word_decides : (w s x y : ℕ) → possible (w / 4096) (w / 64 % 64) (w % 64) ≡ true
    → Decides (is_word w s x y) ((w / 4096 ≡ s) × (w / 64 % 64 ≡ x) × (w % 64 ≡ y))
word_decides w s x y can = (
  told w s x y,
  λ (es, ex, ey). let same : possible s x y ≡ possible (w / 4096) (w / 64 % 64) (w % 64) = cc in
      let whole = word_of_parts w in
      and_from (possible s x y) (eqb w (fact_word s x y)) (same ∙ can) (eq-eqb w (fact_word s x y) (omega arith)),
)

pub row_hit : (ws : List ℕ) (i s x y w : ℕ) → w ≡ get_or ws i 0 → possible (w / 4096) (w / 64 % 64) (w % 64) ≡ true → w / 4096 ≡ s → w % 64 ≡ y
    → listed ws (i + 1) s x y ≡ (listed ws i s x y || (eqb x (w / 64 % 64) && ltb (w / 64 % 64) 64))
row_hit ws i s x y w at can es ey =
    let here : is_word w s x y ≡ (eqb x (w / 64 % 64) && ltb (w / 64 % 64) 64) =
    same_from_decides (is_word w s x y) (eqb x (w / 64 % 64) && ltb (w / 64 % 64) 64)
    (Decides-like (is_word w s x y) (λ t. sym t.1) (λ (e : x ≡ w / 64 % 64). (es, sym e, ey)) (word_decides w s x y can)) (
      λ h. eqb-true x (w / 64 % 64) (and_parts (eqb x (w / 64 % 64)) (ltb (w / 64 % 64) 64) h).0,
      λ e. and_from (eqb x (w / 64 % 64)) (ltb (w / 64 % 64) 64) (eq-eqb x (w / 64 % 64) e) (lt-ltb (w / 64 % 64) 64 (omega arith)),
    ) in
    listed_more ws i s x y ∙ ap (λ (v : ℕ). listed ws i s x y || is_word v s x y) (sym at) ∙ ap (λ (b : Bool). listed ws i s x y || b) here

pub row_miss : (ws : List ℕ) (i s x y w : ℕ) → w ≡ get_or ws i 0 → (w / 4096 ≡ s → w % 64 ≡ y → ⊥) → listed ws (i + 1) s x y ≡ listed ws i s x y
row_miss ws i s x y w at other =
    let here : is_word w s x y ≡ false = false_from_ne_true (is_word w s x y) (λ h. let t = told w s x y h in other t.0 t.2) in
    listed_more ws i s x y ∙ ap (λ (v : ℕ). listed ws i s x y || is_word v s x y) (sym at) ∙ ap (λ (b : Bool). listed ws i s x y || b) here ∙ or-false (listed ws i s x y)
