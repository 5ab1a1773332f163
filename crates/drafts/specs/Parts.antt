-- The split that a split in range stands for.
use Rattle.std.specs.Prelude.{◌≡◌, None}
use Rattle.bits.specs.Bit.{bit}
use Rattle.drafts.specs.Grounds.{side_of_kind}
use Rattle.drafts.specs.Ranges.{splitting_in}
use Rattle.drafts.specs.Shares.{LowestLong, parts_in}
use Rattle.drafts.specs.Slots.{Slots}
use Rattle.drafts.specs.Splitting.{Parts}
use Rattle.drafts.specs.declared.range.SplitInRange.{SplitInRange}
use Rattle.drafts.specs.declared.step.Split.{Split}

-- The parts and their shares.
abbrev pub parts_of : SplitInRange → Parts
parts_of s =
    record {
      whole = s.splitting.whole;
      part1 = s.splitting.part1;
      part2 = s.splitting.part2;
      actors1 = bit s.share1.actors.word;
      actors2 = bit s.share2.actors.word;
      below1 = bit s.share1.below.word;
      below2 = bit s.share2.below.word;
    }

-- It is the split of the step.
abbrev pub SplitOf : Split → SplitInRange → Type 0
SplitOf d s = (s.splitting ≡ splitting_in d) × (parts_of s ≡ parts_in d)

-- It is the split of the step, and no rule gets too long.
abbrev pub FittingSplit : Split → Slots → SplitInRange → Type 0
FittingSplit d B s = SplitOf d s × LowestLong (side_of_kind d.kind) (parts_in d) B None
