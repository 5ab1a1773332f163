-- What one visit of a fact changes.
use Rattle.std.proofs.Common.{◌≡◌, ℕ, true, false, ◌⊎◌, arith}
use Rattle.std.proofs.lemmas.Bool.Decides.{nat_tests}
use Rattle.model.specs.Facts.{Facts, placed}
use Rattle.model.specs.Sizes.{takes}
use Rattle.model.proofs.Sets.{placed-idle}
use Rattle.transfer.specs.Contents.{Content, Writing}
use Rattle.transfer.specs.Orders.{drop_surplus, put_missing}

module _ (W : Writing) (M : Facts) (s x y : ℕ) (C : Content) where
  -- a drop only takes facts away
  pub drop_shrinks : (a b c : ℕ) → (drop_surplus W M s x y C).facts a b c ≡ true → C.facts a b c ≡ true
  unfolding placed
  drop_shrinks a b c h = grind (arith, nat_tests)

  -- what is visited and still there is the model's
  pub drop_here : (drop_surplus W M s x y C).facts s x y ≡ true → M s x y ≡ true
  unfolding placed
  drop_here h = grind (arith, nat_tests)

  -- a put only adds facts
  pub put_grows : (a b c : ℕ) → C.facts a b c ≡ true → (put_missing W M s x y C).facts a b c ≡ true
  unfolding placed
  put_grows a b c h = grind (arith, nat_tests)

  -- and what it adds is the model's
  pub put_within : (a b c : ℕ) → (put_missing W M s x y C).facts a b c ≡ true → (C.facts a b c ≡ true) ⊎ (M a b c ≡ true)
  unfolding placed
  put_within a b c h = grind (arith, nat_tests)

  -- each fact of the model is then there, if it is taken
  pub put_here : M s x y ≡ true → takes C.facts C.capacity s x y ≡ true → (put_missing W M s x y C).facts s x y ≡ true
  unfolding placed
  put_here has taken = grind (arith, nat_tests)

  -- where the model has what the store has, a drop changes nothing
  pub drop_idle : (C.facts s x y ≡ true → M s x y ≡ true) → drop_surplus W M s x y C ≡ C
  drop_idle within = grind (arith, nat_tests, placed-idle C.facts s x y false)

  -- where the store has what the model has, a put changes nothing
  pub put_idle : (M s x y ≡ true → C.facts s x y ≡ true) → put_missing W M s x y C ≡ C
  put_idle within = grind (arith, nat_tests, placed-idle C.facts s x y true)

  pub drop_stays : (a b c : ℕ) → (C.facts a b c ≡ true → M a b c ≡ true) → (drop_surplus W M s x y C).facts a b c ≡ true → M a b c ≡ true
  drop_stays a b c h e = h (drop_shrinks a b c e)

  pub put_stays : (a b c : ℕ) → (M a b c ≡ true → C.facts a b c ≡ true) → M a b c ≡ true → (put_missing W M s x y C).facts a b c ≡ true
  put_stays a b c h e = put_grows a b c (h e)
