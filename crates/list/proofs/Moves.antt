-- What putting and dropping make of sound words.
use Rattle.std.proofs.Common.{◌≡◌, ℕ, ◌+◌, ◌-◌, ◌/◌, ◌%◌, ◌<◌, ◌≤◌, min, Bool, true, false, cond, not, ◌&&◌, ◌||◌, ltb, ◌⊎◌, List, length, get_or, drop, set, replicate, sym, refl, ap, ◌∙◌, subst, ap₂, inl, inr, ⊎_elim, Option, Some, is_some, arith}
use Rattle.std.proofs.lemmas.List.{get_or-set_same, get_or-set_other, length-set, get_or_append_left, get_or-replicate, length-replicate, length-append, length-drop}
use Rattle.std.proofs.lemmas.Bool.{cases_Bool, cases_eq, both_ways, cond-true, not_from_false}
use Rattle.std.proofs.Math.Bool.{and-true}
use Rattle.model.specs.Facts.{Facts, possible, placed, fact_word}
use Rattle.model.specs.declared.fact.Fact.{Fact}
use Rattle.model.specs.declared.possible_fact.PossibleFact.{PossibleFact}
use Rattle.model.specs.Sizes.{size, takes}
use Rattle.model.proofs.Counting.{size-put, size-drop, size_none}
use Rattle.list.specs.declared.list.FactList.{FactList}
use Rattle.list.specs.Words.{among, listed, room, Apart, FactWords, Free, without, free, cleared, written, erased, used_words, place, PlaceAmong}
use Rattle.list.proofs.Places.{used_is, place_word, listed-is_some}
use Rattle.list.proofs.Listings.{among_decides, placed_by, found, listed-none, possible-word}

-- n of the words are used, as a fact list keeps them
pub record Sound (ws : List ℕ) (n : ℕ) : Type 0 where
  pub within : n ≤ room ws
  pub apart : Apart ws n
  pub facts : FactWords ws n
  pub rest : Free ws n
  pub counted : n ≡ size (listed ws n)

pub none-sound : (ws : List ℕ) → Free ws 0 → Sound ws 0
none-sound ws f = record {
  within = omega arith;
  apart = λ i j h. let l = h.0 in omega arith;
  facts = λ i (l : i < 0). absurd (omega arith);
  rest = f;
  counted = sym (size_none (listed ws 0) (listed-none ws));
}

-- cleared words have the room that they had, and it is free
pub cleared-length : (ws : List ℕ) → length (cleared ws) ≡ length ws
cleared-length ws =
    length-append (replicate (room ws) free) (drop (room ws) ws)
    ∙ (let a = length-replicate (room ws) free in let b = length-drop (room ws) ws in omega arith)

pub cleared-free : (ws : List ℕ) → Free (cleared ws) 0
cleared-free ws i _ l =
    let e = cleared-length ws in
    let m : i < room ws = omega arith in
    let n = length-replicate (room ws) free in
    get_or_append_left (replicate (room ws) free) (drop (room ws) ws) 0 i (omega arith) ∙ get_or-replicate (room ws) i free 0 m

module _ (ws : List ℕ) (n s x y : ℕ) (can : possible s x y ≡ true) (l : n < room ws) where
  put_here : get_or (set ws n (fact_word s x y)) n 0 ≡ fact_word s x y
  put_here = get_or-set_same ws n (fact_word s x y) 0 (omega arith)

  put_other : (k : ℕ) → (k ≡ n → ⊥) → get_or (set ws n (fact_word s x y)) k 0 ≡ get_or ws k 0
  put_other k d = get_or-set_other ws n k (fact_word s x y) 0 d

  pub put-listed : listed (set ws n (fact_word s x y)) (n + 1) ≡ placed (listed ws n) s x y true
  put-listed =
      placed_by ws (set ws n (fact_word s x y)) n (n + 1) s x y true can
      ((among_decides (set ws n (fact_word s x y)) (fact_word s x y) (n + 1)).1 (n, omega arith, put_here))
      (λ w ne h. ⊎_elim (λ (e : h.0 ≡ n). absurd (ne (sym h.2 ∙ ap (λ (k : ℕ). get_or (set ws n (fact_word s x y)) k 0) e ∙ put_here)))
      (λ (d : h.0 ≡ n → ⊥). let m = h.1 in (h.0, omega arith, sym (put_other h.0 d) ∙ h.2)) (cases_eq h.0 n))
      (λ w ne h. let m = h.1 in (h.0, omega arith, put_other h.0 (omega arith) ∙ h.2))

  pub put-sound : Sound ws n → listed ws n s x y ≡ false → Sound (set ws n (fact_word s x y)) (n + 1)
  put-sound ok new = record {
    within = simp length-set (omega arith);
    apart = apart';
    facts = facts';
    rest = λ i m q. put_other i (omega arith) ∙ ok.rest i (omega arith) (simp length-set at q);
    counted = ap (λ k. k + 1) ok.counted ∙ sym (size-put (listed ws n) s x y can new) ∙ sym (ap size put-listed);
  }
    where
      fresh : (k : ℕ) → k < n → get_or ws k 0 ≡ fact_word s x y → ⊥
      fresh k m e = both_ways (listed ws n s x y) new (found ws n s x y k can m e)

      facts' : FactWords (set ws n (fact_word s x y)) (n + 1)
      facts' i m =
          ⊎_elim
          (λ (e : i ≡ n). possible-word s x y can (get_or (set ws n (fact_word s x y)) i 0) (ap (λ (k : ℕ). get_or (set ws n (fact_word s x y)) k 0) e ∙ put_here))
          (λ (d : i ≡ n → ⊥). subst (λ (w : ℕ). possible (w / 4096) (w / 64 % 64) (w % 64) ≡ true) (sym (put_other i d)) (ok.facts i (omega arith)))
          (cases_eq i n)

      apart' : Apart (set ws n (fact_word s x y)) (n + 1)
      apart' i j h = let li = h.0 in let lj = h.1 in let e = h.2 in ⊎_elim
          (λ (p : i ≡ n). ⊎_elim (λ (q : j ≡ n). p ∙ sym q)
          (λ (q : j ≡ n → ⊥). absurd (fresh j (omega arith) (sym (put_other j q) ∙ sym e ∙ ap (λ (k : ℕ). get_or (set ws n (fact_word s x y)) k 0) p ∙ put_here))) (cases_eq j n))
          (λ (p : i ≡ n → ⊥). ⊎_elim (λ (q : j ≡ n). absurd (fresh i (omega arith) (sym (put_other i p) ∙ e ∙ ap (λ (k : ℕ). get_or (set ws n (fact_word s x y)) k 0) q ∙ put_here)))
          (λ (q : j ≡ n → ⊥). ok.apart i j (omega arith, omega arith, sym (put_other i p) ∙ e ∙ put_other j q)) (cases_eq j n))
          (cases_eq i n)

module _ (ws : List ℕ) (n i s x y : ℕ) (can : possible s x y ≡ true) (ok : Sound ws n) (l : i < n) (is : get_or ws i 0 ≡ fact_word s x y) where
  -- below n - 1 only the gap has another word, and it has the last
  gap : i < n - 1 → get_or (without ws n i) i 0 ≡ get_or ws (n - 1) 0
  gap m =
      get_or-set_other (set ws i (get_or ws (n - 1) 0)) (n - 1) i 4294967295 0 (omega arith)
      ∙ get_or-set_same ws i (get_or ws (n - 1) 0) 0 (let w = ok.within in omega arith)

  others : (k : ℕ) → (k ≡ i → ⊥) → (k ≡ n - 1 → ⊥) → get_or (without ws n i) k 0 ≡ get_or ws k 0
  others k d e = get_or-set_other (set ws i (get_or ws (n - 1) 0)) (n - 1) k 4294967295 0 e ∙ get_or-set_other ws i k (get_or ws (n - 1) 0) 0 d

  -- where the word at k came from
  back : (k : ℕ) → k < n - 1 → (j : ℕ) × (j < n) × (j ≡ i → ⊥) × (get_or (without ws n i) k 0 ≡ get_or ws j 0) × (((k ≡ i) × (j ≡ n - 1)) ⊎ (k ≡ j))
  back k m = ⊎_elim
      (λ (e : k ≡ i). (n - 1, omega arith, omega arith, ap (λ (z : ℕ). get_or (without ws n i) z 0) e ∙ gap (omega arith), inl (e, refl)))
      (λ (d : k ≡ i → ⊥). (k, omega arith, d, others k d (omega arith), inr refl))
      (cases_eq k i)

  -- where the word at j went
  forth : (j : ℕ) → j < n → (j ≡ i → ⊥) → (k : ℕ) × (k < n - 1) × (get_or (without ws n i) k 0 ≡ get_or ws j 0)
  forth j m d = ⊎_elim
      (λ (e : j ≡ n - 1). (i, omega arith, gap (omega arith) ∙ ap (λ (z : ℕ). get_or ws z 0) (sym e)))
      (λ (e : j ≡ n - 1 → ⊥). (j, omega arith, others j d e))
      (cases_eq j (n - 1))

  pub drop-listed : listed (without ws n i) (n - 1) ≡ placed (listed ws n) s x y false
  drop-listed =
      placed_by ws (without ws n i) n (n - 1) s x y false can
      (⊎_elim (λ e. let h = (among_decides (without ws n i) (fact_word s x y) (n - 1)).0 e in let b = back h.0 h.1 in
      absurd (b.2 (ok.apart b.0 i (b.1, l, sym b.3 ∙ h.2 ∙ sym is)))) (λ e. e) (cases_Bool (among (without ws n i) (fact_word s x y) (n - 1))))
      (λ w ne h. let b = back h.0 h.1 in (b.0, b.1, sym b.3 ∙ h.2))
      (λ w ne h. let f = forth h.0 h.1 (λ e. ne (sym h.2 ∙ ap (λ (z : ℕ). get_or ws z 0) e ∙ is)) in (f.0, f.1, f.2 ∙ h.2))

  pub drop-sound : Sound (without ws n i) (n - 1)
  drop-sound = record {
    within = simp (length-set) (let w = ok.within in omega arith);
    apart = apart';
    facts = λ k m. let b = back k m in subst (λ (w : ℕ). possible (w / 4096) (w / 64 % 64) (w % 64) ≡ true) (sym b.3) (ok.facts b.0 b.1);
    rest = rest';
    counted = counted';
  }
    where
      apart' : Apart (without ws n i) (n - 1)
      apart' a b h =
          let e = h.2 in let p = back a h.0 in let q = back b h.1 in
          let same : p.0 ≡ q.0 = ok.apart p.0 q.0 (p.1, q.1, sym p.3 ∙ e ∙ q.3) in
          ⊎_elim
          (λ u. ⊎_elim (λ v. u.0 ∙ sym v.0) (λ v. let u1 = u.1 in omega arith) q.4)
          (λ u. ⊎_elim (λ v. let v1 = v.1 in omega arith) (λ v. u ∙ same ∙ sym v) q.4)
          p.4

      rest' : Free (without ws n i) (n - 1)
      rest' k m lk =
          let lk' : k < room ws = simp length-set at lk in
          ⊎_elim
          (λ (e : k ≡ n - 1). ap (λ (z : ℕ). get_or (without ws n i) z 0) e ∙ get_or-set_same (set ws i (get_or ws (n - 1) 0)) (n - 1) 4294967295 0 (simp length-set (let w = ok.within in omega arith)))
          (λ (d : k ≡ n - 1 → ⊥). others k (omega arith) d ∙ ok.rest k (omega arith) lk')
          (cases_eq k (n - 1))

      counted' : n - 1 ≡ size (listed (without ws n i) (n - 1))
      counted' =
          let a = size-drop (listed ws n) s x y can (found ws n s x y i can l is) in
          let b = ok.counted in
          let e : size (listed (without ws n i) (n - 1)) ≡ size (placed (listed ws n) s x y false) = ap size drop-listed in
          omega arith

-- the words that a put and a drop leave are those that the words alone tell
pub written_is : (ws : List ℕ) (n s x y : ℕ) → Sound ws n → set ws n (fact_word s x y) ≡ written ws s x y
written_is ws n s x y ok = ap (λ (k : ℕ). set ws k (fact_word s x y)) (sym (used_is ws n ok.within ok.facts ok.rest))

pub erased-is : (ws : List ℕ) (n i s x y : ℕ) → Sound ws n → place (fact_word s x y) ws ≡ i → without ws n i ≡ erased ws s x y
erased-is ws n i s x y ok at =
    ap (λ (k : ℕ). without ws k i) (sym (used_is ws n ok.within ok.facts ok.rest)) ∙ ap (without ws (used_words ws)) (sym at)

-- what a fact list says of its own words
pub kept : (l : FactList) → Sound l.words.now l.used
kept l = record { within = l.within; apart = l.apart; facts = l.facts; rest = l.rest; counted = l.counted }

-- what put and drop_fact know once they have looked for the word w of a possible fact
pub record Sought (ws : List ℕ) (n s x y w : ℕ) (r : Option ℕ) : Type 0 where
  pub can : possible s x y ≡ true
  pub word : w ≡ fact_word s x y
  pub held : listed ws n s x y ≡ is_some r

pub sought : (l : FactList) (p : PossibleFact) (f : Fact) (w : ℕ) (r : Option ℕ) → p.fact ≡ f → w ≡ fact_word p.fact.sort p.fact.x p.fact.y
    → PlaceAmong l.words.now l.used w r → Sought l.words.now l.used f.sort f.x f.y w r
sought l p f w r e word at =
    let can' = subst (λ (q : Fact). possible q.sort q.x q.y ≡ true) e p.can in
    let word' = word ∙ ap (λ (q : Fact). fact_word q.sort q.x q.y) e in
    let within = l.within in
    record { can = can'; word = word'; held = listed-is_some l.words.now l.used f.sort f.x f.y w r (omega arith) can' word' at }

-- a put of a new fact where there is room
pub record PutMade (ws : List ℕ) (n s x y w : ℕ) : Type 0 where
  pub sound : Sound (set ws n w) (n + 1)
  pub set_of : listed (set ws n w) (n + 1) ≡ placed (listed ws n) s x y true
  pub words : set ws n w ≡ cond (not (listed ws n s x y)) (written ws s x y) ws

pub put_made : (l : FactList) (p : PossibleFact) (f : Fact) (w : ℕ) (r : Option ℕ) → p.fact ≡ f → w ≡ fact_word p.fact.sort p.fact.x p.fact.y
    → PlaceAmong l.words.now l.used w r → false ≡ is_some r → l.used < room l.words.now
    → PutMade l.words.now l.used f.sort f.x f.y w
put_made l p f w r e word at none free_one =
    let ws = l.words.now in
    let n = l.used in
    let k = sought l p f w r e word at in
    let new = k.held ∙ sym none in
    subst (PutMade ws n f.sort f.x f.y) (sym k.word) (record {
      sound = put-sound ws n f.sort f.x f.y k.can free_one (kept l) new;
      set_of = put-listed ws n f.sort f.x f.y k.can free_one;
      words = written_is ws n f.sort f.x f.y (kept l)
          ∙ sym (cond-true (not (listed ws n f.sort f.x f.y)) (written ws f.sort f.x f.y) ws (not_from_false (listed ws n f.sort f.x f.y) new));
    })

-- a drop of a fact that was found at place i
pub record DropMade (ws : List ℕ) (n i s x y : ℕ) : Type 0 where
  pub sound : Sound (without ws n i) (n - 1)
  pub set_of : listed (without ws n i) (n - 1) ≡ placed (listed ws n) s x y false
  pub words : without ws n i ≡ cond (listed ws n s x y) (erased ws s x y) ws

pub drop_made : (l : FactList) (p : PossibleFact) (f : Fact) (w i : ℕ) → p.fact ≡ f → w ≡ fact_word p.fact.sort p.fact.x p.fact.y
    → (i < l.used) × (place w l.words.now ≡ i)
    → DropMade l.words.now l.used i f.sort f.x f.y
drop_made l p f w i e word at =
    let ws = l.words.now in
    let n = l.used in
    let k = sought l p f w (Some i) e word at in
    let within = l.within in
    let below = at.0 in
    let is = place_word ws n w i (omega arith) below at.1 ∙ k.word in
    record {
      sound = drop-sound ws n i f.sort f.x f.y k.can (kept l) below is;
      set_of = drop-listed ws n i f.sort f.x f.y k.can (kept l) below is;
      words = erased-is ws n i f.sort f.x f.y (kept l) (ap (λ v. place v ws) (sym k.word) ∙ at.1)
          ∙ sym (cond-true (listed ws n f.sort f.x f.y) (erased ws f.sort f.x f.y) ws k.held);
    }

-- the words after one put into a new list
pub begun : (ws vs us : List ℕ) (S : Facts) (s x y : ℕ) (r : Bool) → vs ≡ cleared ws → ((a b c : ℕ) → S a b c ≡ false) → r ≡ takes S (room vs) s x y
    → us ≡ cond (r && not (S s x y)) (written vs s x y) vs
    → us ≡ cond (possible s x y && ltb 0 (room ws)) (written (cleared ws) s x y) (cleared ws)
begun ws vs us S s x y r new none answer after =
    let fresh : size S ≡ 0 = size_none S none in
    let same : room vs ≡ room ws = ap room new ∙ ap (λ (k : ℕ). min k 16576) (cleared-length ws) in
    let held = none s x y in
    let test : (r && not (S s x y)) ≡ (possible s x y && ltb 0 (room ws)) =
    ap (λ (b : Bool). r && not b) held ∙ and-true r ∙ answer
    ∙ ap (λ (b : Bool). possible s x y && (b || ltb (size S) (room vs))) held
    ∙ ap₂ (λ (n m : ℕ). possible s x y && ltb n m) fresh same in
    after
    ∙ ap (λ (b : Bool). cond b (written vs s x y) vs) test
    ∙ ap (λ (l : List ℕ). cond (possible s x y && ltb 0 (room ws)) (written l s x y) l) new
