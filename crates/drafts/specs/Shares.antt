-- What a split asks of its shares and of the rules.
use Rattle.std.specs.Prelude.{◌≡◌, ℕ, ◌<◌, Bool, true, false, cond, ◌||◌, length, Some, None, Option, nat_lt}
use Rattle.bits.specs.Bit.{bit}
use Rattle.model.specs.Facts.{Facts}
use Rattle.model.specs.Sides.{has, under}
use Rattle.model.specs.declared.side.Side.{Side}
use Rattle.rules.specs.Edits.{split_rule}
use Rattle.rules.specs.Trees.{Tree, nodes}
use Rattle.drafts.specs.Slots.{Slots}
use Rattle.drafts.specs.Splitting.{Parts}
use Rattle.drafts.specs.declared.step.Split.{Split}

-- The split that a step asks for: bit i of a share is number i.
abbrev pub parts_in : Split → Parts
parts_in d =
    record {
      whole = d.whole;
      part1 = d.part1;
      part2 = d.part2;
      actors1 = bit d.actors1;
      actors2 = bit d.actors2;
      below1 = bit d.below1;
      below2 = bit d.below2;
    }

-- The shares are together just the whole's actors, and just what is directly below it.
abbrev pub SharesFit : Facts → Side → Parts → Type 0
SharesFit F k D =
    ((a : ℕ) → (D.actors1 a || D.actors2 a) ≡ has F k a D.whole) × ((x : ℕ) → (D.below1 x || D.below2 x) ≡ under F k x D.whole)

-- A rule after the split.
abbrev pub parted_rule : Side → Parts → Tree → Tree
parted_rule k D t = split_rule k D.whole D.part1 D.part2 t

-- The split rule would have more than 31 nodes.
abbrev pub too_long : Side → Parts → Option Tree → Bool
too_long k D None = false
too_long k D (Some t) = nat_lt 31 (length (nodes (parted_rule k D t)))

-- The same of a rule.
abbrev pub long_after : Side → Parts → Tree → Bool
long_after k D t = too_long k D (Some t)

-- The rule after the split, or as it was where it would get too long.
abbrev pub if_fits : Side → Parts → Tree → Tree
if_fits k D t = cond (too_long k D (Some t)) t (parted_rule k D t)

-- The lowest slot whose rule would be too long, if there is one.
abbrev pub LowestLong : Side → Parts → Slots → Option ℕ → Type 0
LowestLong k D B None = (i : ℕ) → too_long k D (B i) ≡ false
LowestLong k D B (Some slot) = (too_long k D (B slot) ≡ true) × ((i : ℕ) → i < slot → too_long k D (B i) ≡ false)
