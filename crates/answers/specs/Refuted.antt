-- Whether a rule is valid, and why it is not.
use Rattle.std.specs.Prelude.{◌≡◌, ℕ, Some, Decides, Result, MatchResult}
use Rattle.bits.specs.Bit.{bit}
use Rattle.bits.specs.declared.Bits.{Bits}
use Rattle.model.specs.Facts.{Facts}
use Rattle.rules.specs.declared.rule.Rule.{Rule}
use Rattle.rules.specs.Rules.{rule_nodes, rule_tree}
use Rattle.answers.specs.declared.validity.Invalid.{Invalid}
use Rattle.answers.specs.declared.validity.Invalid.TheVariants.{Absent, Nobody}
use Rattle.answers.specs.Qualify.{Qualifies}
use Rattle.answers.specs.Validity.{NamesStand, Somebody, Valid, first_absent}

-- The reason holds: that node is the first that names an entity that does not stand; or all names stand and nobody qualifies.
abbrev pub Refutes : Facts → Rule → Invalid → Type 0
Refutes F r (Absent i) = first_absent F 0 (rule_nodes r) ≡ Some i
Refutes F r Nobody = NamesStand F (rule_tree r) × (Somebody F (rule_tree r) → ⊥)

-- The set of those who qualify, of a valid rule; or a reason why it is not.
abbrev pub Judged : Facts → Rule → Result Bits Invalid → Type 0
Judged F r judgement =
    MatchResult judgement (λ set. Valid F (rule_tree r) × ((a : ℕ) → Decides (bit set.word a) (Qualifies F (rule_tree r) a))) (Refutes F r)
