-- Facts among the words.
use Rattle.std.proofs.Common.{◌≡◌, ℕ, ◌/◌, ◌%◌, ◌<◌, Bool, true, false, ◌&&◌, eqb, List, get_or, Decides, sym, refl, ap, ◌∙◌, subst, ⊎_elim, arith}
use Rattle.std.proofs.lemmas.Bool.{cases_Bool, and_left, and_right, false_from_ne_true}
use Rattle.std.proofs.lemmas.Bool.Decides.{same_from_decides, Decides-eqb, Decides-below_or, Decides-like}
use Rattle.model.specs.Facts.{possible, placed, fact_word}
use Rattle.model.proofs.Possible.{parts, not_same}
use Rattle.model.proofs.Sets.{placed-is}
use Rattle.list.specs.Words.{among, listed, free}

-- a word stands for one possible fact at most, and tells its sort and numbers
pub record Told (s x y w : ℕ) : Type 0 where
  pub sort : w / 4096 ≡ s
  pub lower : w / 64 % 64 ≡ x
  pub upper : w % 64 ≡ y

pub tells_fact : (s x y : ℕ) → possible s x y ≡ true → Told s x y (fact_word s x y)
tells_fact s x y can =
    let p = parts s x y can in
    let l = p.lower in
    let u = p.upper in
    record { sort = omega arith; lower = omega arith; upper = omega arith }

pub one_fact : (s x y a b c : ℕ) → possible s x y ≡ true → possible a b c ≡ true → fact_word a b c ≡ fact_word s x y → (a ≡ s) × (b ≡ x) × (c ≡ y)
one_fact s x y a b c p q e =
    let f = tells_fact s x y p in
    let g = tells_fact a b c q in (
      sym g.sort ∙ ap (λ (w : ℕ). w / 4096) e ∙ f.sort,
      sym g.lower ∙ ap (λ (w : ℕ). w / 64 % 64) e ∙ f.lower,
      sym g.upper ∙ ap (λ (w : ℕ). w % 64) e ∙ f.upper,
    )

pub word_of_parts : (w : ℕ) → fact_word (w / 4096) (w / 64 % 64) (w % 64) ≡ w
word_of_parts w = omega arith

-- the word of a possible fact is not the free word
pub not_free : (w : ℕ) → possible (w / 4096) (w / 64 % 64) (w % 64) ≡ true → w ≡ free → ⊥
not_free w can e =
    let l = (parts (w / 4096) (w / 64 % 64) (w % 64) can).sort in
    omega arith

pub possible_at : (w v : ℕ) → w ≡ v → possible (v / 4096) (v / 64 % 64) (v % 64) ≡ true → possible (w / 4096) (w / 64 % 64) (w % 64) ≡ true
possible_at w v e can = subst (λ (u : ℕ). possible (u / 4096) (u / 64 % 64) (u % 64) ≡ true) (sym e) can

pub possible-word : (s x y : ℕ) → possible s x y ≡ true → (w : ℕ) → w ≡ fact_word s x y → possible (w / 4096) (w / 64 % 64) (w % 64) ≡ true
possible-word s x y can w e =
    let t = tells_fact s x y can in
    let same : possible (fact_word s x y / 4096) (fact_word s x y / 64 % 64) (fact_word s x y % 64) ≡ possible s x y = cc in
    possible_at w (fact_word s x y) e (same ∙ can)

-- w stands at some place below n
abbrev pub Within : List ℕ → ℕ → ℕ → Type 0
Within ws w n = (k : ℕ) × (k < n) × (get_or ws k 0 ≡ w)

pub among_decides : (ws : List ℕ) (w n : ℕ) → Decides (among ws w n) (Within ws w n)
unfolding among
among_decides ws w =
    Decides-below_or (λ k. eqb (get_or ws k 0) w) (λ k. get_or ws k 0 ≡ w) (among ws w) (λ k. Decides-eqb (get_or ws k 0) w) refl (λ _. refl)

pub listed_at : (ws : List ℕ) (n s x y : ℕ) → possible s x y ≡ true → listed ws n s x y ≡ among ws (fact_word s x y) n
unfolding listed
listed_at ws n s x y p = ap (λ b. b && among ws (fact_word s x y) n) p

pub listed-not : (ws : List ℕ) (n s x y : ℕ) → possible s x y ≡ false → listed ws n s x y ≡ false
unfolding listed
listed-not ws n s x y p = and_left (possible s x y) (among ws (fact_word s x y) n) p

pub found : (ws : List ℕ) (n s x y r : ℕ) → possible s x y ≡ true → r < n → get_or ws r 0 ≡ fact_word s x y → listed ws n s x y ≡ true
found ws n s x y r can l h = listed_at ws n s x y can ∙ (among_decides ws (fact_word s x y) n).1 (r, l, h)

pub among_none : (ws : List ℕ) (n w : ℕ) → ((k : ℕ) → k < n → get_or ws k 0 ≡ w → ⊥) → among ws w n ≡ false
among_none ws n w out = false_from_ne_true (among ws w n) (λ e. let h = (among_decides ws w n).0 e in out h.0 h.1 h.2)

pub listed-none : (ws : List ℕ) (s x y : ℕ) → listed ws 0 s x y ≡ false
unfolding listed among
listed-none ws s x y = and_right (possible s x y) false refl

-- words that have the same facts but for one
pub placed_by : (ws vs : List ℕ) (n m s x y : ℕ) (v : Bool) → possible s x y ≡ true → among vs (fact_word s x y) m ≡ v
    → ((w : ℕ) → (w ≡ fact_word s x y → ⊥) → Within vs w m → Within ws w n)
    → ((w : ℕ) → (w ≡ fact_word s x y → ⊥) → Within ws w n → Within vs w m)
    → listed vs m ≡ placed (listed ws n) s x y v
placed_by ws vs n m s x y v can here to from =
    placed-is (listed ws n) (listed vs m) s x y v (listed_at vs m s x y can ∙ here) (λ a b c e. ⊎_elim
    (λ p.
    let w = fact_word a b c in
    let ne : fact_word a b c ≡ fact_word s x y → ⊥ = λ q. let r = one_fact s x y a b c can p q in not_same s x y a b c e r.0 r.1 r.2 in
    listed_at vs m a b c p
    ∙ same_from_decides (among vs w m) (among ws w n) (Decides-like (among vs w m) (to w ne) (from w ne) (among_decides vs w m)) (among_decides ws w n)
    ∙ sym (listed_at ws n a b c p))
    (λ p. listed-not vs m a b c p ∙ sym (listed-not ws n a b c p))
    (cases_Bool (possible a b c)))
