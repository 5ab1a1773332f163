-- The people of released rules at two moments.
use Rattle.std.specs.Prelude.{ℕ, ◌↔◌, Some, None, Option}
use Rattle.rules.specs.Trees.{Tree}
use Rattle.answers.specs.Qualify.{Qualifies}
use Rattle.drafts.specs.Steps.{State}
use Rattle.effects.specs.Rules.{Plain, Negated, KindKept}

-- Both slots are empty, or both are filled and their rules are so.
abbrev pub Alike : (Tree → Tree → Type 0) → Option Tree → Option Tree → Type 0
Alike P None None = Unit {0}
Alike P None (Some u) = ⊥
Alike P (Some t) None = ⊥
Alike P (Some t) (Some u) = P t u

-- The same slots are filled in both, each with the same people.
abbrev pub SamePeople : State → State → Type 0
SamePeople S T = (slot : ℕ) → Alike (λ t u. (a : ℕ) → Qualifies T.facts u a ↔ Qualifies S.facts t a) (S.slots slot) (T.slots slot)

-- Of a rule t that became u: without NOT it lost nobody, and of negated leaves it gained nobody; and it is of its kind still.
pub record Drifted (S T : State) (t u : Tree) : Type 0 where
  pub kind : KindKept t u
  pub nobody_lost : Plain t → (a : ℕ) → Qualifies S.facts t a → Qualifies T.facts u a
  pub nobody_gained : Negated t → (a : ℕ) → Qualifies T.facts u a → Qualifies S.facts t a

-- The same slots are filled in both, a rule without NOT lost nobody, and a rule of negated leaves gained nobody.
abbrev pub NobodyLost : State → State → Type 0
NobodyLost S T = (slot : ℕ) → Alike (Drifted S T) (S.slots slot) (T.slots slot)
