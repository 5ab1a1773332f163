-- The pairs after a split.
use Rattle.std.proofs.Common.{◌≡◌, ℕ, Bool, true, not, ◌&&◌, ◌||◌, eqb, ◌≢◌, ◌↔◌, Decides, arith}
use Rattle.std.proofs.lemmas.Bool.Decides.{nat_tests, Decides-eqb, Decides-not, Decides-and, Decides-or}
use Rattle.model.specs.Facts.{Facts}
use Rattle.model.specs.Sides.{has, under}
use Rattle.model.specs.declared.side.Side.{Side}
use Rattle.answers.specs.Qualify.{EndsStand}
use Rattle.drafts.specs.Sided.{Sided, sided}
use Rattle.drafts.specs.Splitting.{Parts, parted_side}
use Rattle.effects.specs.Fits.{SplitFits}
use Rattle.effects.specs.Pairs.{HasShare, UnderShare, whole_of, PartedHas, PartedUnder, HasBack, UnderBack}
use Rattle.effects.proofs.OneSide.{own_side}

own : (b : Bool) → Decides b (b ≡ true)
own b = (λ q. q, λ q. q)

other : (x y : ℕ) → Decides (not (eqb x y)) (x ≢ y)
other x y = Decides-not (eqb x y) (Decides-eqb x y)

share : (y n : ℕ) (b : Bool) → Decides (eqb y n && b) ((y ≡ n) × (b ≡ true))
share y n b = Decides-and (eqb y n) b (Decides-eqb y n) (own b)

module _ (D : Parts) (S : Sided) where
  has_ways : (a y : ℕ) → ((parted_side D S).has a y ≡ true) ↔ HasShare D S.has a y
  unfolding parted_side
  has_ways a y =
      Decides-or ((eqb y D.part1 && D.actors1 a) || (eqb y D.part2 && D.actors2 a)) (not (eqb y D.whole) && S.has a y)
      (Decides-or (eqb y D.part1 && D.actors1 a) (eqb y D.part2 && D.actors2 a) (share y D.part1 (D.actors1 a)) (share y D.part2 (D.actors2 a)))
      (Decides-and (not (eqb y D.whole)) (S.has a y) (other y D.whole) (own (S.has a y)))

  under_ways : (x y : ℕ) → ((parted_side D S).under x y ≡ true) ↔ UnderShare D S.under x y
  unfolding parted_side
  under_ways x y =
      let up : Bool = (eqb x D.part1 || eqb x D.part2) && S.under D.whole y in
      let low1 : Bool = eqb y D.part1 && D.below1 x in
      let low2 : Bool = eqb y D.part2 && D.below2 x in
      let kept : Bool = not (eqb y D.whole) && S.under x y in
      Decides-or ((up || low1) || low2) (not (eqb x D.whole) && kept)
      (Decides-or (up || low1) low2
      (Decides-or up low1
      (Decides-and (eqb x D.part1 || eqb x D.part2) (S.under D.whole y)
      (Decides-or (eqb x D.part1) (eqb x D.part2) (Decides-eqb x D.part1) (Decides-eqb x D.part2))
      (own (S.under D.whole y)))
      (share y D.part1 (D.below1 x)))
      (share y D.part2 (D.below2 x)))
      (Decides-and (not (eqb x D.whole)) kept (other x D.whole) (Decides-and (not (eqb y D.whole)) (S.under x y) (other y D.whole) (own (S.under x y))))

pub parted-has : PartedHas
parted-has F k D a y = own_side F k (parted_side D (sided F k)) (λ (T : Sided). (T.has a y ≡ true) ↔ HasShare D (has F k) a y) (has_ways D (sided F k) a y)

pub parted-under : PartedUnder
parted-under F k D x y = own_side F k (parted_side D (sided F k)) (λ (T : Sided). (T.under x y ≡ true) ↔ UnderShare D (under F k) x y) (under_ways D (sided F k) x y)

module _ (F : Facts) (k : Side) (D : Parts) (w : EndsStand F) (h : SplitFits F k D) where
  pub side_has-back : (a y : ℕ) → (parted_side D (sided F k)).has a y ≡ true → has F k a (whole_of D y) ≡ true
  unfolding parted_side
  side_has-back a y q = grind (arith, nat_tests, h.actors a, w.group k a y)

  pub side_under-back : (x y : ℕ) → (parted_side D (sided F k)).under x y ≡ true → under F k (whole_of D x) (whole_of D y) ≡ true
  unfolding parted_side
  side_under-back x y q = grind (arith, nat_tests, h.below x, w.upper k D.whole y, w.lower k x D.whole, w.lower k x y, w.upper k x y)

pub has-back : HasBack
has-back F k D w h a y =
    own_side F k (parted_side D (sided F k)) (λ (T : Sided). T.has a y ≡ true → has F k a (whole_of D y) ≡ true) (side_has-back F k D w h a y)

pub under_back : UnderBack
under_back F k D w h x y =
    own_side F k (parted_side D (sided F k)) (λ (T : Sided). T.under x y ≡ true → under F k (whole_of D x) (whole_of D y) ≡ true) (side_under-back F k D w h x y)
