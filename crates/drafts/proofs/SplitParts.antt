-- A split in range does what its step says.
use Rattle.std.proofs.Common.{◌≡◌, ℕ, None, ap, ◌∙◌}
use Rattle.model.specs.Facts.{Facts}
use Rattle.rules.specs.Changes.{tree_split}
use Rattle.rules.specs.declared.change.Splitting.{Splitting}
use Rattle.drafts.specs.Edited.{unless_too_long}
use Rattle.drafts.specs.Grounds.{side_of_kind}
use Rattle.drafts.specs.Parts.{SplitOf, parts_of}
use Rattle.drafts.specs.Ranges.{splitting_in}
use Rattle.drafts.specs.Shares.{LowestLong, long_after, parted_rule, parts_in}
use Rattle.drafts.specs.Sided.{side_changed}
use Rattle.drafts.specs.Slots.{Slots, each_edited, edited}
use Rattle.drafts.specs.Splitting.{Parts, parted, parted_side}
use Rattle.drafts.specs.declared.range.SplitInRange.{SplitInRange}
use Rattle.drafts.specs.declared.step.Split.{Split}
use Rattle.drafts.proofs.Longest.{fitting}

pub split_facts : (d : Split) (s : SplitInRange) → SplitOf d s → (F : Facts) (a x y : ℕ)
    → side_changed s.splitting.side (parted_side (parts_of s)) F a x y ≡ parted (side_of_kind d.kind) (parts_in d) F a x y
split_facts d s of F a x y =
    ap (λ (t : Splitting). side_changed t.side (parted_side (parts_of s)) F a x y) of.0 ∙ ap (λ (P : Parts). parted (side_of_kind d.kind) P F a x y) of.1

pub split_rules : (d : Split) (s : SplitInRange) → SplitOf d s → (B : Slots) → LowestLong (side_of_kind d.kind) (parts_in d) B None → (i : ℕ)
    → each_edited (unless_too_long (long_after s.splitting.side (parts_of s)) (tree_split s.splitting)) B i ≡ each_edited (parted_rule (side_of_kind d.kind) (parts_in d)) B i
split_rules d s of B fits i =
    ap (λ (t : Splitting). edited (unless_too_long (long_after t.side (parts_of s)) (tree_split t)) (B i)) of.0
    ∙ ap (λ (P : Parts). edited (unless_too_long (long_after (side_of_kind d.kind) P) (tree_split (splitting_in d))) (B i)) of.1
    ∙ fitting (side_of_kind d.kind) (parts_in d) (B i) (fits i)
