-- The list of a set has just the numbers in the set.
use Rattle.std.proofs.Common.{◌≡◌, ℕ, zero, suc, ◌+◌, ◌<◌, ◌≤◌, Bool, true, false, cond, List, ◌∷◌, length, get_or, sym, ap, ◌∙◌, subst, ⊎_elim, arith}
use Rattle.std.proofs.lemmas.Bool.{cases_eq, true≢false}
use Rattle.std.proofs.lemmas.List.Elements.{All-head, All-tail, All-from_all_within, filter_passes}
use Rattle.std.specs.Bool.{MatchBool}
use Rattle.std.specs.List.{All, AllWithin, HoldsAt, filter, range_with_len}
use Rattle.bits.specs.Bit.{bit}
use Rattle.bits.specs.Members.{members}

first : (P : ℕ → Type 0) (b : Bool) (x : ℕ) (xs : List ℕ) → b ≡ true → All P (cond b (x ∷ xs) xs) → P x
first P b x xs e h = All-head P x xs (subst (λ (c : Bool). All P (cond c (x ∷ xs) xs)) e h)

others : (P : ℕ → Type 0) (b : Bool) (x : ℕ) (xs : List ℕ) → All P (cond b (x ∷ xs) xs) → All P xs
others P true x xs h = All-tail P x xs h
others P false x xs h = h

kept : (P : ℕ → Type 0) (p : ℕ → Bool) (a n k : ℕ) → a ≤ k → k < a + n → p k ≡ true → All P (filter p (range_with_len a n)) → P k
kept P p a zero k l m e h = absurd (omega arith)
kept P p a (suc n) k l m e h =
    ⊎_elim (λ (s : a ≡ k). subst P s (first P (p a) a (filter p (range_with_len (a + 1) n)) (ap p s ∙ e) h))
    (λ (d : a ≡ k → ⊥). kept P p (a + 1) n k (omega arith) (omega arith) e (others P (p a) a (filter p (range_with_len (a + 1) n)) h))
    (cases_eq a k)

-- what holds of each number in the list holds of each in the set
pub listed : (P : ℕ → Type 0) (w : ℕ) → All P (members w) → (k : ℕ) → k < 64 → bit w k ≡ true → P k
unfolding members
listed P w h k l e = kept P (bit w) 0 64 k (omega arith) (omega arith) e h

-- each number in the list is in the set
pub in_set : (w : ℕ) → All (λ k. bit w k ≡ true) (members w)
unfolding members
in_set w = filter_passes (bit w) (range_with_len 0 64)

-- `any` over a set: some number in it passes, or none does
pub any_in_set : (r : Bool) (w : ℕ) (Yes No : ℕ → Type 0)
    → MatchBool r ((k : ℕ) × (k < length (members w)) × HoldsAt Yes (members w) k) (AllWithin No (members w) 0 (length (members w)))
    → (r ≡ true → (x : ℕ) × (bit w x ≡ true) × Yes x) × (r ≡ false → (x : ℕ) → x < 64 → bit w x ≡ true → No x)
any_in_set true w Yes No (k, l, at) = (λ e. (get_or (members w) k 0, in_set w k 0 l, at 0), λ e. absurd (true≢false e))
any_in_set false w Yes No none = (λ e. absurd (true≢false (sym e)), λ e x l in_it. listed No w (All-from_all_within No (members w) none) x l in_it)
