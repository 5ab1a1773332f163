-- The place of a word in a list.
use Rattle.std.proofs.Common.{◌≡◌, ℕ, ◌<◌, ◌≤◌, eqb, List, length, get_or, take, Option, MatchOption, Some, None, is_some, true, sym, ap, subst, ◌∙◌, arith}
use Rattle.std.specs.List.{AllWithin, HoldsAt}
use Rattle.std.proofs.lemmas.List.{get_or-take, length-take}
use Rattle.std.proofs.lemmas.List.Sums.{position_or_len_is, passes_at_first}
use Rattle.std.proofs.lemmas.Bool.{eq-eqb, eqb-true, ne_eqb}
use Rattle.model.specs.Facts.{possible, fact_word}
use Rattle.list.proofs.Listings.{among_decides, among_none, listed_at, not_free}
use Rattle.list.specs.Words.{among, listed, free, room, place, used_words, PlaceAmong, Free, FactWords}

-- the place of w is the one that has w, or is the length, with no w before it
pub place_is : (w : ℕ) (ws : List ℕ) (r : ℕ) → r ≤ length ws → ((k : ℕ) → k < r → get_or ws k 0 ≡ w → ⊥) → (r < length ws → get_or ws r 0 ≡ w) → place w ws ≡ r
place_is w ws r l before at =
    position_or_len_is (λ v. eqb v w) ws r 0 l (λ k m. ne_eqb (get_or ws k 0) w (before k m)) (λ m. eq-eqb (get_or ws r 0) w (at m))

-- n words are used where the first n are facts' words and the rest are free
pub used_is : (ws : List ℕ) (n : ℕ) → n ≤ room ws → FactWords ws n → Free ws n → used_words ws ≡ n
used_is ws n within facts rest =
    let long : length (take (room ws) ws) ≡ room ws = let e = length-take (room ws) ws in omega arith in
    place_is free (take (room ws) ws) n (omega arith)
    (λ k l e. not_free (get_or ws k 0) (facts k l) (sym (get_or-take (room ws) ws k 0 (omega arith)) ∙ e))
    (λ l. get_or-take (room ws) ws n 0 (omega arith) ∙ rest n (omega arith) (omega arith))

-- what a search of the first n words gives
pub place_among : (ws : List ℕ) (n w : ℕ) (r : Option ℕ) → n ≤ length ws
    → MatchOption r (AllWithin (λ v. v ≡ w → ⊥) (take n ws) 0 (length (take n ws))) (λ i. (i < length (take n ws)) × HoldsAt (λ v. v ≡ w) (take n ws) i × AllWithin (λ v. v ≡ w → ⊥) (take n ws) 0 i)
    → PlaceAmong ws n w r
place_among ws n w None l none =
    let m = length-take n ws in
    among_none ws n w (λ k h e. none k 0 (omega arith) (omega arith) (get_or-take n ws k 0 h ∙ e))
place_among ws n w (Some i) l (below, at, before) =
    let m = length-take n ws in
    let h : i < n = omega arith in (
      h,
      place_is w ws i (omega arith) (λ k b e. before k 0 (omega arith) b (get_or-take n ws k 0 (omega arith) ∙ e)) (λ _. sym (get_or-take n ws i 0 h) ∙ at 0),
    )

-- w stands at its place among the first n words
pub place_word : (ws : List ℕ) (n w i : ℕ) → n ≤ length ws → i < n → place w ws ≡ i → get_or ws i 0 ≡ w
place_word ws n w i l below at =
    eqb-true (get_or ws i 0) w (subst (λ (k : ℕ). eqb (get_or ws k 0) w ≡ true) at (passes_at_first (λ v. eqb v w) ws 0 (omega arith)))

-- the list names a possible fact exactly if its word was found
found_among : (ws : List ℕ) (n w : ℕ) (r : Option ℕ) → n ≤ length ws → PlaceAmong ws n w r → among ws w n ≡ is_some r
found_among ws n w None l out = out
found_among ws n w (Some i) l (below, at) = (among_decides ws w n).1 (i, below, place_word ws n w i l below at)

pub listed-is_some : (ws : List ℕ) (n s x y w : ℕ) (r : Option ℕ) → n ≤ length ws → possible s x y ≡ true → w ≡ fact_word s x y → PlaceAmong ws n w r
    → listed ws n s x y ≡ is_some r
listed-is_some ws n s x y w r l can e at = listed_at ws n s x y can ∙ ap (λ v. among ws v n) (sym e) ∙ found_among ws n w r l at
