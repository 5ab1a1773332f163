-- What a check of a step's grounds gives.
use Rattle.std.specs.Prelude.{◌≡◌, ℕ, ◌<◌, List, Some, None, Ok, Err, Option, Result}
use Rattle.rules.specs.Rules.{rule_tree}
use Rattle.rules.specs.declared.bytes.NodeBytes.{NodeBytes}
use Rattle.rules.specs.declared.rule.Rule.{Rule}
use Rattle.drafts.specs.Slots.{tree_of}
use Rattle.drafts.specs.declared.refusal.Refusal.{Refusal}

-- Where the verdict accepts, something that is so; where it refuses, that refusal.
abbrev pub Checked : {A : Type 0} → Option Refusal → (A → Type 0) → Result A Refusal → Type 0
Checked verdict P (Ok a) = (verdict ≡ None) × P a
Checked verdict P (Err w) = verdict ≡ Some w

-- The rule is the list's tree, and a book has the slot.
abbrev pub TreeChecked : (slot : ℕ) → List NodeBytes → Rule → Type 0
TreeChecked slot list r = (slot < 32) × (rule_tree r ≡ tree_of list)
