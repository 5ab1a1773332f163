-- Every pair before a split is, with the whole put back for its parts, a pair after it.
use Rattle.std.proofs.Common.{◌≡◌, ℕ, Bool, true, false, ◌||◌, eqb, ◌⊎◌, sym, refl, ap, ◌∙◌, inl, inr, ⊎_elim, arith}
use Rattle.std.proofs.lemmas.Bool.{cases_Bool, eqb-true, eqb-false}
use Rattle.std.proofs.lemmas.Bool.Decides.{nat_tests}
use Rattle.model.specs.Facts.{Facts}
use Rattle.model.specs.Sides.{stands, has, under}
use Rattle.model.specs.declared.side.Side.{Side}
use Rattle.drafts.specs.Splitting.{Parts}
use Rattle.effects.specs.Fits.{SplitFits}
use Rattle.effects.specs.Pairs.{HasOnto, UnderOnto, whole_of}
use Rattle.effects.proofs.SplitPairs.{parted-has, parted-under}

module _ (F : Facts) (k : Side) (D : Parts) (h : SplitFits F k D) where
  -- both parts were the whole
  of_part1 : whole_of D D.part1 ≡ D.whole
  of_part1 = grind (arith, nat_tests)

  of_part2 : whole_of D D.part2 ≡ D.whole
  of_part2 = grind (arith, nat_tests)

  -- what stood is no part
  of_standing : (y : ℕ) → stands F k y ≡ true → whole_of D y ≡ y
  of_standing y s = grind (arith, nat_tests, h.fresh1, h.fresh2)

either_share : (p q : Bool) → (p || q) ≡ true → (p ≡ true) ⊎ (q ≡ true)
either_share true q h = inl refl
either_share false q h = inr h

pub has_onto : HasOnto
has_onto F k D w h a y q =
    ⊎_elim
    (λ (e : eqb y D.whole ≡ true).
    let is = eqb-true y D.whole e in
    let covered : (D.actors1 a || D.actors2 a) ≡ true = h.actors a ∙ ap (λ (v : ℕ). has F k a v) (sym is) ∙ q in
    ⊎_elim
    (λ (s : D.actors1 a ≡ true). (D.part1, (parted-has F k D a D.part1).1 (inl (inl (refl, s))), of_part1 F k D h ∙ sym is))
    (λ (s : D.actors2 a ≡ true). (D.part2, (parted-has F k D a D.part2).1 (inl (inr (refl, s))), of_part2 F k D h ∙ sym is))
    (either_share (D.actors1 a) (D.actors2 a) covered))
    (λ (e : eqb y D.whole ≡ false). (y, (parted-has F k D a y).1 (inr (eqb-false y D.whole e, q)), of_standing F k D h y (w.group k a y q)))
    (cases_Bool (eqb y D.whole))

pub under_onto : UnderOnto
under_onto F k D w h x y q =
    ⊎_elim
    (λ (e : eqb x D.whole ≡ true).
    let is = eqb-true x D.whole e in
    let up : under F k D.whole y ≡ true = ap (λ (v : ℕ). under F k v y) (sym is) ∙ q in
    (D.part1, y, (parted-under F k D D.part1 y).1 (inl (inl (inl (inl refl, up)))), of_part1 F k D h ∙ sym is, of_standing F k D h y (w.upper k x y q)))
    (λ (e : eqb x D.whole ≡ false).
    let low = of_standing F k D h x (w.lower k x y q) in
    ⊎_elim
    (λ (e' : eqb y D.whole ≡ true).
    let is = eqb-true y D.whole e' in
    let covered : (D.below1 x || D.below2 x) ≡ true = h.below x ∙ ap (λ (v : ℕ). under F k x v) (sym is) ∙ q in
    ⊎_elim
    (λ (s : D.below1 x ≡ true). (x, D.part1, (parted-under F k D x D.part1).1 (inl (inl (inr (refl, s)))), low, of_part1 F k D h ∙ sym is))
    (λ (s : D.below2 x ≡ true). (x, D.part2, (parted-under F k D x D.part2).1 (inl (inr (refl, s))), low, of_part2 F k D h ∙ sym is))
    (either_share (D.below1 x) (D.below2 x) covered))
    (λ (e' : eqb y D.whole ≡ false).
    (x, y, (parted-under F k D x y).1 (inr (eqb-false x D.whole e, (eqb-false y D.whole e', q))), low, of_standing F k D h y (w.upper k x y q)))
    (cases_Bool (eqb y D.whole)))
    (cases_Bool (eqb x D.whole))
