-- What joining and splitting do to who qualifies.
use Rattle.std.specs.Prelude.{ℕ, ◌↔◌}
use Rattle.model.specs.Facts.{Facts}
use Rattle.model.specs.Chains.{Circle}
use Rattle.model.specs.declared.side.Side.{Side}
use Rattle.rules.specs.Trees.{Tree}
use Rattle.rules.specs.Edits.{joined_rule}
use Rattle.answers.specs.Qualify.{EndsStand, Qualifies}
use Rattle.answers.specs.Validity.{NamesStand}
use Rattle.drafts.specs.Joining.{joined}
use Rattle.drafts.specs.Splitting.{Parts, parted}
use Rattle.effects.specs.Fits.{SplitFits}
use Rattle.effects.specs.Rules.{Plain, Negated, parted_rule}

-- A join takes nobody from a rule without NOT, and gives nobody to a rule of negated leaves.
abbrev pub JoinGrows : Type 0
JoinGrows =
    (F : Facts) (k : Side) (e f n : ℕ) (t : Tree) (a : ℕ)
    → (Plain t → Qualifies F t a → Qualifies (joined k e f n F) (joined_rule k e f n t) a)
    × (Negated t → Qualifies (joined k e f n F) (joined_rule k e f n t) a → Qualifies F t a)

-- A split that fits leaves everyone's answer: whoever qualified for a rule qualifies for the split rule, and nobody else does.
abbrev pub SplitKeepsAnswers : Type 0
SplitKeepsAnswers =
    (F : Facts) (k : Side) (D : Parts) → EndsStand F → (Circle F k → ⊥) → SplitFits F k D
    → (t : Tree) → NamesStand F t → (a : ℕ) → Qualifies (parted k D F) (parted_rule k D t) a ↔ Qualifies F t a
