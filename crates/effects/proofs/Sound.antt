-- Joining and splitting keep the ends of pairs standing and bring no circle.
use Rattle.std.proofs.Common.{◌≡◌, ℕ, Bool, true, arith}
use Rattle.std.proofs.lemmas.Bool.Decides.{nat_tests}
use Rattle.model.specs.Facts.{Facts}
use Rattle.model.specs.Sides.{actor_stands, under}
use Rattle.model.specs.Chains.{Chain, one, more, Circle}
use Rattle.model.specs.declared.side.Side.{Side}
use Rattle.answers.specs.Qualify.{EndsStand}
use Rattle.drafts.specs.Sided.{Sided, sided}
use Rattle.drafts.specs.Joining.{joined_side}
use Rattle.drafts.specs.Splitting.{Parts, parted_side}
use Rattle.effects.specs.Fits.{SplitFits}
use Rattle.effects.specs.Pairs.{whole_of}
use Rattle.effects.specs.Kept.{JoinKeepsEnds, JoinMakesNoCircle, SplitKeepsEnds, SplitMakesNoCircle}
use Rattle.effects.proofs.OneSide.{own_side, Round, Ends, side_ends, with-ends, with-no_circle}
use Rattle.effects.proofs.SplitPairs.{side_has-back, side_under-back}

join-ends : (e f n : ℕ) (S : Sided) (P : ℕ → Bool) → Ends P S → Ends P (joined_side e f n S)
unfolding joined_side
join-ends e f n S P w = record {
  actor = λ a y q. grind (arith, nat_tests, w.actor a y, w.actor a e, w.actor a f);
  group = λ a y q. grind (arith, nat_tests, w.group a y);
  lower = λ x y q. grind (arith, nat_tests, w.lower x y, w.lower x e, w.lower x f);
  upper = λ x y q. grind (arith, nat_tests, w.upper x y, w.upper e y, w.upper f y);
}

pub join_keeps_ends : JoinKeepsEnds
join_keeps_ends F k e f n w = with-ends F k (joined_side e f n (sided F k)) w (join-ends e f n (sided F k) (actor_stands F) (side_ends F w k))

pub join_makes_no_circle : JoinMakesNoCircle
join_makes_no_circle F k e f n c h = with-no_circle F k (joined_side e f n (sided F k)) c (λ b. h.circle (own_side F k (joined_side e f n (sided F k)) Round b))

module _ (F : Facts) (k : Side) (D : Parts) (w : EndsStand F) (c : Circle F k → ⊥) (h : SplitFits F k D) where
  pub no_loop : under F k D.whole D.whole ≡ true → ⊥
  no_loop q = c (D.whole, one q)

  split-ends : Ends (actor_stands F) (parted_side D (sided F k))
  unfolding parted_side
  split-ends = record {
    actor = λ a y q. w.actor k a (whole_of D y) (side_has-back F k D w h a y q);
    group = λ a y q. grind (arith, nat_tests, w.group k a y);
    lower = λ x y q. grind (arith, nat_tests, no_loop, w.lower k x y, w.lower k x D.whole, h.below x);
    upper = λ x y q. grind (arith, nat_tests, no_loop, w.upper k x y, w.upper k D.whole y);
  }

  pub chain_back : {x y : ℕ} → Chain (parted_side D (sided F k)).under x y → Chain (under F k) (whole_of D x) (whole_of D y)
  chain_back (one {x} {y} p) = one (side_under-back F k D w h x y p)
  chain_back (more {x} {m} p q) = more (side_under-back F k D w h x m p) (chain_back q)

pub split_keeps_ends : SplitKeepsEnds
split_keeps_ends F k D w c h = with-ends F k (parted_side D (sided F k)) w (split-ends F k D w c h)

pub split_makes_no_circle : SplitMakesNoCircle
split_makes_no_circle F k D w c h = with-no_circle F k (parted_side D (sided F k)) c (λ b. c k (whole_of D b.0, chain_back F k D w (c k) h b.1))
