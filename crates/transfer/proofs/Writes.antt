-- What one turn of writing changes, and what writing a whole model keeps.
use Rattle.std.proofs.Common.{◌≡◌, ℕ, refl, ⊎_elim}
use Rattle.std.proofs.lemmas.Bool.{cond_both}
use Rattle.model.specs.Facts.{Facts, OnlyPossible}
use Rattle.transfer.specs.Contents.{Content, Writing, after_put, after_drop}
use Rattle.transfer.specs.Visits.{drop_shrinks, put_within}
use Rattle.transfer.specs.Orders.{drop_surplus, put_missing, each_fact, written_out}
use Rattle.transfer.proofs.Turns.{all_kept}

-- D has the room that C has, and lies where C lies
abbrev pub Keeps : Content → Content → Type 0
Keeps C D = (D.capacity ≡ C.capacity) × (D.home ≡ C.home)

module _ (W : Writing) (M : Facts) (C : Content) where
  pub drop_keeps : (s x y : ℕ) (D : Content) → Keeps C D → Keeps C (drop_surplus W M s x y D)
  drop_keeps s x y D h = cond_both (M s x y) D (after_drop W s x y D) (Keeps C) (λ _. h) (λ _. h)

  pub put_keeps : (s x y : ℕ) (D : Content) → Keeps C D → Keeps C (put_missing W M s x y D)
  put_keeps s x y D h = cond_both (M s x y) (after_put W s x y D) D (Keeps C) (λ _. h) (λ _. h)

  pub dropped_keeps : Keeps C (each_fact (drop_surplus W M) C)
  dropped_keeps = all_kept (Keeps C) (drop_surplus W M) drop_keeps C (refl, refl)

  pub written_keeps : Keeps C (written_out W M C)
  written_keeps = all_kept (Keeps C) (put_missing W M) put_keeps (each_fact (drop_surplus W M) C) dropped_keeps

  -- what is dropped leaves only possible facts, and of a model of possible facts only such are put
  pub dropped_possible : OnlyPossible C.facts → OnlyPossible (each_fact (drop_surplus W M) C).facts
  dropped_possible = all_kept (λ (D : Content). OnlyPossible D.facts) (drop_surplus W M) (λ s x y D can a b c h. can a b c (drop_shrinks W M s x y D a b c h)) C

  pub written-possible : OnlyPossible M → OnlyPossible C.facts → OnlyPossible (written_out W M C).facts
  written-possible only_M only_C =
      all_kept (λ (D : Content). OnlyPossible D.facts) (put_missing W M) (λ s x y D can a b c h. ⊎_elim (can a b c) (only_M a b c) (put_within W M s x y D a b c h))
      (each_fact (drop_surplus W M) C) (dropped_possible only_C)
