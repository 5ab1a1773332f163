-- A model that fits is written whole, and the order of writing is that of the fact words.
use Rattle.std.proofs.Common.{◌≡◌, ℕ, zero, suc, ◌<◌, ◌≤◌, Bool, true, false, ◌&&◌, refl, ⊎_elim, arith}
use Rattle.std.proofs.lemmas.Bool.Decides.{nat_tests}
use Rattle.std.specs.Cmp.{both_ways}
use Rattle.bits.specs.Total.{total, unit}
use Rattle.model.specs.Facts.{Facts, OnlyPossible, possible, placed}
use Rattle.model.specs.Sizes.{row_size, sort_size, size}
use Rattle.model.proofs.Counting.{size-put}
use Rattle.model.proofs.Possible.{parts}
use Rattle.transfer.specs.Contents.{Content, Writing}
use Rattle.transfer.specs.Exact.{FittingModelIsHeld}
use Rattle.transfer.specs.Orders.{AscendsByWord, drop_surplus, put_missing, each_fact, written_out}
use Rattle.transfer.proofs.Turns.{all_kept, all_made}
use Rattle.transfer.specs.Visits.{drop_shrinks, drop_here, put_grows, put_within, put_here}
use Rattle.transfer.proofs.Writes.{put_keeps, dropped_keeps, dropped_possible}

-- S has no fact that T lacks
abbrev pub Within : Facts → Facts → Type 0
Within S T = (s x y : ℕ) → S s x y ≡ true → T s x y ≡ true

total_within : (f g : ℕ → ℕ) (n : ℕ) → ((k : ℕ) → f k ≤ g k) → total f n ≤ total g n
unfolding total
total_within f g zero h = omega arith
total_within f g (suc n) h = omega (arith, total_within f g n h, h n)

unit_within : (a b c : Bool) → (b ≡ true → c ≡ true) → unit (a && b) ≤ unit (a && c)
unit_within a b c h = grind (arith, nat_tests)

-- a smaller set has no more facts
pub size_within : (S T : Facts) → Within S T → size S ≤ size T
unfolding size
size_within S T within =
    total_within (sort_size S) (sort_size T) 7 (λ s. total_within (row_size S s) (row_size T s) 64 (λ y.
    total_within (λ x. unit (possible s x y && S s x y)) (λ x. unit (possible s x y && T s x y)) 64 (λ x. unit_within (possible s x y) (S s x y) (T s x y) (within s x y))))

-- a set within the model that lacks one of its facts is smaller
pub size_room : (S M : Facts) (s x y : ℕ) → possible s x y ≡ true → Within S M → M s x y ≡ true → S s x y ≡ false → size S < size M
size_room S M s x y can within has out =
    let more = size-put S s x y can out in
    let less = size_within (placed S s x y true) M (unfold placed in λ a b c e. let w = within a b c in grind (arith, nat_tests)) in
    omega arith

module _ (W : Writing) (M : Facts) (C : Content) (only_M : OnlyPossible M) (only_C : OnlyPossible C.facts) (fits : size M ≤ C.capacity) where
  dropped : Content
  dropped = each_fact (drop_surplus W M) C

  -- the drops leave only facts of the model
  nothing_else : Within dropped.facts M
  unfolding dropped
  nothing_else s x y h =
      let p = parts s x y (dropped_possible W M C only_C s x y h) in
      all_made (λ (D : Content). Unit {0}) (λ (D : Content). D.facts s x y ≡ true → M s x y ≡ true) (drop_surplus W M) s x y
      (λ t u v D _. tt) (λ t u v D before e. before (drop_shrinks W M t u v D s x y e)) (λ D _. drop_here W M s x y D) p.sort p.lower p.upper C tt h

  -- what the puts find: a store within the model, with room for the model
  Ready : Content → Type 0
  Ready D = Within D.facts M × (size M ≤ D.capacity)

  ready_first : Ready dropped
  unfolding Ready dropped
  ready_first = (nothing_else, let e = (dropped_keeps W M C).0 in omega arith)

  ready_kept : (s x y : ℕ) (D : Content) → Ready D → Ready (put_missing W M s x y D)
  unfolding Ready
  ready_kept s x y D h =
      (λ a b c e. ⊎_elim (h.0 a b c) (λ m. m) (put_within W M s x y D a b c e), let e = (put_keeps W M D s x y D (refl, refl)).0 in omega (arith, h.1))

  -- each fact of the model is taken
  taken : (s x y : ℕ) (D : Content) → M s x y ≡ true → Ready D → (put_missing W M s x y D).facts s x y ≡ true
  unfolding Ready
  taken s x y D has h =
      let can = only_M s x y has in
      let room : D.facts s x y ≡ false → size D.facts < D.capacity = λ out. omega (arith, size_room D.facts M s x y can h.0 has out, h.1) in
      put_here W M s x y D has (grind (arith, nat_tests))

  -- so nothing of the model is missing in the end, and nothing else is there
  everything : Within M (written_out W M C).facts
  unfolding dropped
  everything s x y has =
      let p = parts s x y (only_M s x y has) in
      all_made Ready (λ (D : Content). D.facts s x y ≡ true) (put_missing W M) s x y ready_kept (λ t u v D e. put_grows W M t u v D s x y e) (λ D h. taken s x y D has h)
      p.sort p.lower p.upper dropped ready_first

  within_model : Within (written_out W M C).facts M
  unfolding Ready dropped
  within_model = (all_kept Ready (put_missing W M) ready_kept dropped ready_first).0

pub fitting_model_is_held : FittingModelIsHeld
fitting_model_is_held W M C only_M only_C fits =
    λ i s x y. both_ways _ _ (within_model W M C only_M only_C fits s x y) (everything W M C only_M only_C fits s x y) i

pub ascends_by_word : AscendsByWord
ascends_by_word s x y t u v lx ly lu lv before = grind arith
