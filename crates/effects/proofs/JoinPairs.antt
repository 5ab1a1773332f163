-- The pairs after a join.
use Rattle.std.proofs.Common.{◌≡◌, ℕ, true, false, ◌||◌, ◌↔◌, inl, inr, arith}
use Rattle.std.proofs.lemmas.Bool.Decides.{nat_tests, eqb_tells}
use Rattle.std.proofs.lemmas.Bool.{or_cases}
use Rattle.model.specs.Sides.{has, under}
use Rattle.drafts.specs.Sided.{Sided, sided}
use Rattle.drafts.specs.Joining.{joined_side}
use Rattle.effects.specs.Pairs.{HadRenamed, WasUnderRenamed, JoinedHas, JoinedUnder}
use Rattle.effects.proofs.OneSide.{own_side}

module _ (e f n : ℕ) (S : Sided) (fresh : S.stands n ≡ false) where
  has_image : ((a y : ℕ) → S.has a y ≡ true → S.stands y ≡ true) → (a y : ℕ) → ((joined_side e f n S).has a y ≡ true) ↔ HadRenamed e f n S.has a y
  unfolding joined_side
  has_image w a y = (out, λ i. grind (arith, nat_tests))
    where
      out : (joined_side e f n S).has a y ≡ true → HadRenamed e f n S.has a y
      out q =
          elim (eqb_tells y n) [
            | inl t ↦
                let p : (S.has a e || S.has a f) ≡ true = grind (arith, nat_tests, w a y) in
                elim (or_cases (S.has a e) (S.has a f) p)
                [ inl u ↦ (e, u, grind (arith, nat_tests)) | inr u ↦ (f, u, grind (arith, nat_tests)) ]
            | inr t ↦ (y, grind (arith, nat_tests), grind (arith, nat_tests))
          ]

  under_image : ((x y : ℕ) → S.under x y ≡ true → S.stands x ≡ true) → ((x y : ℕ) → S.under x y ≡ true → S.stands y ≡ true) → (x y : ℕ)
      → ((joined_side e f n S).under x y ≡ true) ↔ WasUnderRenamed e f n S.under x y
  unfolding joined_side
  under_image lower upper x y = (out, λ i. grind (arith, nat_tests))
    where
      out : (joined_side e f n S).under x y ≡ true → WasUnderRenamed e f n S.under x y
      out q =
          elim (eqb_tells x n) [
            | inl t ↦
                let p : (S.under e y || S.under f y) ≡ true = grind (arith, nat_tests, lower x y, lower x e, lower x f) in
                elim (or_cases (S.under e y) (S.under f y) p) [
                  | inl u ↦ (e, y, u, grind (arith, nat_tests), grind (arith, nat_tests), grind (arith, nat_tests))
                  | inr u ↦ (f, y, u, grind (arith, nat_tests), grind (arith, nat_tests), grind (arith, nat_tests))
                ]
            | inr t ↦
                elim (eqb_tells y n) [
                  | inl s ↦
                      let p : (S.under x e || S.under x f) ≡ true = grind (arith, nat_tests, upper x y) in
                      elim (or_cases (S.under x e) (S.under x f) p) [
                        | inl u ↦ (x, e, u, grind (arith, nat_tests), grind (arith, nat_tests), grind (arith, nat_tests))
                        | inr u ↦ (x, f, u, grind (arith, nat_tests), grind (arith, nat_tests), grind (arith, nat_tests))
                      ]
                  | inr s ↦ (x, y, grind (arith, nat_tests), grind (arith, nat_tests), grind (arith, nat_tests), grind (arith, nat_tests))
                ]
          ]

pub joined-has : JoinedHas
joined-has F k e f n w h a y =
    own_side F k (joined_side e f n (sided F k))
    (λ (T : Sided). (T.has a y ≡ true) ↔ HadRenamed e f n (has F k) a y)
    (has_image e f n (sided F k) h.fresh (w.group k) a y)

pub joined-under : JoinedUnder
joined-under F k e f n w h x y =
    own_side F k (joined_side e f n (sided F k))
    (λ (T : Sided). (T.under x y ≡ true) ↔ WasUnderRenamed e f n (under F k) x y)
    (under_image e f n (sided F k) h.fresh (w.lower k) (w.upper k) x y)
