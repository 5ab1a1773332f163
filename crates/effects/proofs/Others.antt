-- Only the facts of the edited side differ.
use Rattle.std.proofs.Common.{◌≡◌, ◌≢◌, refl, ap}
use Rattle.model.specs.Facts.{Facts}
use Rattle.model.specs.declared.side.Side.{Side}
use Rattle.drafts.specs.Sided.{Sided, sided, with_side}
use Rattle.drafts.specs.Joining.{joined_side}
use Rattle.drafts.specs.Splitting.{parted_side}
use Rattle.drafts.specs.SideFacts.{at_other}
use Rattle.effects.specs.Left.{OnlySide, JoinLeaves, SplitLeaves}
use Rattle.effects.proofs.OneSide.{each_side, actors_left}

other_side : (F : Facts) (k : Side) (S : Sided) (j : Side) → j ≢ k → sided (with_side F k S) j ≡ sided F j
other_side F k S = each_side F k S (λ i (T : Sided). i ≢ k → T ≡ sided F i) (λ d. absurd (d refl)) (λ i _ _. refl)

only_side : (F : Facts) (k : Side) (S : Sided) → OnlySide k F (with_side F k S)
only_side F k S = record {
  actors = actors_left F k S;
  groups = λ j d x. ap (λ (T : Sided). T.stands x) (other_side F k S j d);
  members = λ j d a y. ap (λ (T : Sided). T.has a y) (other_side F k S j d);
  hierarchy = λ j d x y. ap (λ (T : Sided). T.under x y) (other_side F k S j d);
  sorts = at_other F k S;
}

pub join_leaves : JoinLeaves
join_leaves F k e f n = only_side F k (joined_side e f n (sided F k))

pub split_leaves : SplitLeaves
split_leaves F k D = only_side F k (parted_side D (sided F k))
