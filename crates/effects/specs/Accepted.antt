-- What an accepted join and an accepted split have shown, and what they leave.
use Rattle.std.specs.Prelude.{◌≡◌, Ok}
use Rattle.rules.specs.Edits.{joined_rule}
use Rattle.drafts.specs.Grounds.{side_of_kind}
use Rattle.drafts.specs.Joining.{joined}
use Rattle.drafts.specs.Shares.{parted_rule, parts_in}
use Rattle.drafts.specs.Slots.{each_edited}
use Rattle.drafts.specs.Splitting.{parted}
use Rattle.drafts.specs.Steps.{State, Stepped}
use Rattle.drafts.specs.declared.step.Join.{Join}
use Rattle.drafts.specs.declared.step.Split.{Split}
use Rattle.drafts.specs.declared.step.Step.TheVariants.{Join as JoinStep, Split as SplitStep}
use Rattle.effects.specs.Fits.{JoinFits, SplitFits}

-- The join fits S, and T is S with the two joined in the model and in every rule.
pub record JoinTaken (j : Join) (S T : State) : Type 0 where
  pub fits : JoinFits S.facts (side_of_kind j.kind) j.first j.second j.into
  pub facts : T.facts ≡ joined (side_of_kind j.kind) j.first j.second j.into S.facts
  pub rules : T.slots ≡ each_edited (joined_rule (side_of_kind j.kind) j.first j.second j.into) S.slots

-- The split fits S, and T is S with the whole split in the model and in every rule.
pub record SplitTaken (d : Split) (S T : State) : Type 0 where
  pub fits : SplitFits S.facts (side_of_kind d.kind) (parts_in d)
  pub facts : T.facts ≡ parted (side_of_kind d.kind) (parts_in d) S.facts
  pub rules : T.slots ≡ each_edited (parted_rule (side_of_kind d.kind) (parts_in d)) S.slots

-- A join that is accepted is so.
abbrev pub AcceptedJoins : Type 0
AcceptedJoins = (j : Join) (S T : State) → Stepped (JoinStep j) S (Ok tt) T → JoinTaken j S T

-- A split that is accepted is so.
abbrev pub AcceptedSplits : Type 0
AcceptedSplits = (d : Split) (S T : State) → Stepped (SplitStep d) S (Ok tt) T → SplitTaken d S T
