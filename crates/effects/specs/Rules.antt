-- What joining and splitting keep of a rule.
use Rattle.std.specs.Prelude.{ℕ}
use Rattle.model.specs.Facts.{Facts}
use Rattle.model.specs.declared.side.Side.{Side}
use Rattle.rules.specs.Trees.{Tree, is, isnt, both, either}
use Rattle.rules.specs.Edits.{joined_rule, split_rule}
use Rattle.answers.specs.Validity.{NamesStand}
use Rattle.drafts.specs.Joining.{joined}
use Rattle.drafts.specs.Splitting.{Parts, parted}

-- The rule is without NOT.
abbrev pub Plain : Tree → Type 0
Plain (is l) = Unit {0}
Plain (isnt l) = ⊥
Plain (both s t) = Plain s × Plain t
Plain (either s t) = Plain s × Plain t

-- Every leaf of the rule is under NOT.
abbrev pub Negated : Tree → Type 0
Negated (is l) = ⊥
Negated (isnt l) = Unit {0}
Negated (both s t) = Negated s × Negated t
Negated (either s t) = Negated s × Negated t

-- A rule after the split.
abbrev pub parted_rule : Side → Parts → Tree → Tree
parted_rule k D t = split_rule k D.whole D.part1 D.part2 t

-- If every entity that a rule names stands, so does every entity that the joined rule names, after the join.
abbrev pub JoinKeepsNames : Type 0
JoinKeepsNames = (F : Facts) (k : Side) (e f n : ℕ) (t : Tree) → NamesStand F t → NamesStand (joined k e f n F) (joined_rule k e f n t)

-- If every entity that a rule names stands, so does every entity that the split rule names, after the split.
abbrev pub SplitKeepsNames : Type 0
SplitKeepsNames = (F : Facts) (k : Side) (D : Parts) (t : Tree) → NamesStand F t → NamesStand (parted k D F) (parted_rule k D t)

-- A rule stays without NOT, or of negated leaves only.
abbrev pub KindKept : Tree → Tree → Type 0
KindKept t u = (Plain t → Plain u) × (Negated t → Negated u)

-- A joined rule is of the rule's kind.
abbrev pub JoinKeepsKind : Type 0
JoinKeepsKind = (k : Side) (e f n : ℕ) (t : Tree) → KindKept t (joined_rule k e f n t)

-- A split rule is of the rule's kind.
abbrev pub SplitKeepsKind : Type 0
SplitKeepsKind = (k : Side) (D : Parts) (t : Tree) → KindKept t (parted_rule k D t)
