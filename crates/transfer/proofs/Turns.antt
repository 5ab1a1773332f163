-- What one turn after another does, in ascending order.
use Rattle.std.proofs.Common.{◌≡◌, ℕ, zero, suc, ◌+◌, ◌<◌, Bool, false, cond, [], ◌∷◌, sym, refl, ap, ◌∙◌, subst, ⊎_elim, not-suc-le-zero, add-one, zero-add, arith}
use Rattle.std.proofs.lemmas.Bool.{cases_eq, cond_both}
use Rattle.std.proofs.lemmas.List.{map-id}
use Rattle.std.proofs.lemmas.List.FromFn.{filter_of_map_range_with_len_more}
use Rattle.std.proofs.lemmas.List.Sums.{fold-append}
use Rattle.std.specs.List.{fold, filter, range_with_len}
use Rattle.transfer.specs.Orders.{ascending, each_upper, each_of_sort, each_fact}

pub no_turns : {A : Type 0} (f : ℕ → A → A) (a : A) → ascending f 0 a ≡ a
unfolding ascending
no_turns f a = refl

pub more_turns : {A : Type 0} (f : ℕ → A → A) (n : ℕ) (a : A) → ascending f (n + 1) a ≡ f n (ascending f n a)
unfolding ascending
more_turns f n a = rw add-one refl

pub ruleset turns = (no_turns, more_turns)

-- turns that change nothing
pub idle : {A : Type 0} (f : ℕ → A → A) (a : A) → ((k : ℕ) → f k a ≡ a) → (n : ℕ) → ascending f n a ≡ a
unfolding ascending
idle f a h zero = refl
idle f a h (suc n) = ap (f n) (idle f a h n) ∙ h n

-- what every turn keeps is kept
kept : {A : Type 0} (P : A → Type 0) (f : ℕ → A → A) → ((k : ℕ) (a : A) → P a → P (f k a)) → (n : ℕ) (a : A) → P a → P (ascending f n a)
unfolding ascending
kept P f keeps zero a p = p
kept P f keeps (suc n) a p = keeps n (ascending f n a) (kept P f keeps n a p)

-- Q is kept by every turn; what turn k makes where Q holds, and every turn keeps, holds at the end
made : {A : Type 0} (Q P : A → Type 0) (f : ℕ → A → A) (k : ℕ) → ((j : ℕ) (a : A) → Q a → Q (f j a)) → ((j : ℕ) (a : A) → P a → P (f j a))
    → ((a : A) → Q a → P (f k a)) → (n : ℕ) → k < n → (a : A) → Q a → P (ascending f n a)
unfolding ascending
made Q P f k keeps-Q keeps-P makes zero l a q = absurd (not-suc-le-zero l)
made Q P f k keeps-Q keeps-P makes (suc n) l a q =
    ⊎_elim
    (λ (e : k ≡ n). subst (λ (j : ℕ). P (f j (ascending f n a))) e (makes (ascending f n a) (kept Q f keeps-Q n a q)))
    (λ (d : k ≡ n → ⊥). keeps-P n (ascending f n a) (made Q P f k keeps-Q keeps-P makes n (omega arith) a q))
    (cases_eq k n)

-- the same over the facts of one sort and lower number, over those of one sort, and over all
module _ {A : Type 0} (P : A → Type 0) (f : ℕ → ℕ → ℕ → A → A) (keeps : (s x y : ℕ) (a : A) → P a → P (f s x y a)) where
  pub upper_kept : (s x : ℕ) (a : A) → P a → P (each_upper f s x a)
  upper_kept s x = kept P (f s x) (keeps s x) 64

  pub sort_kept : (s : ℕ) (a : A) → P a → P (each_of_sort f s a)
  sort_kept s = kept P (each_upper f s) (upper_kept s) 64

  pub all_kept : (a : A) → P a → P (each_fact f a)
  all_kept = kept P (each_of_sort f) sort_kept 7

pub all_made : {A : Type 0} (Q P : A → Type 0) (f : ℕ → ℕ → ℕ → A → A) (s x y : ℕ)
    → ((t u v : ℕ) (a : A) → Q a → Q (f t u v a)) → ((t u v : ℕ) (a : A) → P a → P (f t u v a)) → ((a : A) → Q a → P (f s x y a))
    → s < 7 → x < 64 → y < 64 → (a : A) → Q a → P (each_fact f a)
all_made Q P f s x y keeps-Q keeps-P makes ls lx ly =
    made Q P (each_of_sort f) s (sort_kept Q f keeps-Q) (sort_kept P f keeps-P)
    (made Q P (each_upper f s) x (upper_kept Q f keeps-Q s) (upper_kept P f keeps-P s)
    (made Q P (f s x) y (keeps-Q s x) (keeps-P s x) makes 64 ly) 64 lx) 7 ls

-- the turns of the numbers that pass a test are those of all numbers, where P is kept and the turns of the others change nothing
pub kept_turns : {A : Type 0} (P : A → Type 0) (f : ℕ → A → A) (p : ℕ → Bool) → ((k : ℕ) (a : A) → P a → P (f k a)) → ((k : ℕ) (a : A) → p k ≡ false → P a → f k a ≡ a)
    → (n : ℕ) (a : A) → P a → fold (λ b k. f k b) a (filter p (range_with_len 0 n)) ≡ ascending f n a
unfolding ascending
kept_turns P f p keeps same zero a first = refl
kept_turns P f p keeps same (suc n) a first =
    let before = kept_turns P f p keeps same n a first in
    let more = rw add-one at (simp map-id at (filter_of_map_range_with_len_more p (λ k. k) 0 n n (zero-add n))) in
    ap (fold (λ b k. f k b) a) more ∙ fold-append (λ b k. f k b) a (filter p (range_with_len 0 n)) (cond (p n) (n ∷ []) [])
    ∙ cond_both (p n) (n ∷ []) [] (λ xs. fold (λ b k. f k b) (fold (λ b k. f k b) a (filter p (range_with_len 0 n))) xs ≡ f n (ascending f n a))
    (λ _. ap (f n) before) (λ out. before ∙ sym (same n (ascending f n a) out (kept P f keeps n a first)))
