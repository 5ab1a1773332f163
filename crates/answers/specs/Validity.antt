-- When a rule is valid.
use Rattle.std.specs.Prelude.{◌≡◌, ℕ, ◌+◌, Bool, true, cond, ◌↔◌, List, [], ◌∷◌, Some, None, Option}
use Rattle.model.specs.Facts.{Facts}
use Rattle.model.specs.Sides.{actor_stands, stands}
use Rattle.rules.specs.declared.node.Leaf.{Leaf}
use Rattle.rules.specs.declared.node.Leaf.TheVariants.{Actor, Group}
use Rattle.rules.specs.declared.node.Node.{Node}
use Rattle.rules.specs.declared.node.Node.TheVariants.{Is, Not, And, Or}
use Rattle.rules.specs.declared.rule.Rule.{Rule}
use Rattle.rules.specs.Rules.{rule_nodes, rule_tree}
use Rattle.rules.specs.Trees.{Tree, is, isnt, both, either}
use Rattle.answers.specs.Qualify.{Qualifies}

-- The entity that the leaf names stands.
abbrev pub name_stands : Facts → Leaf → Bool
name_stands F (Actor a) = actor_stands F a
name_stands F (Group k r plus) = stands F k r

-- Every entity that the rule names stands.
abbrev pub NamesStand : Facts → Tree → Type 0
NamesStand F (is l) = name_stands F l ≡ true
NamesStand F (isnt l) = name_stands F l ≡ true
NamesStand F (both s t) = NamesStand F s × NamesStand F t
NamesStand F (either s t) = NamesStand F s × NamesStand F t

-- Somebody qualifies for the rule.
abbrev pub Somebody : Facts → Tree → Type 0
Somebody F t = (a : ℕ) × Qualifies F t a

-- The rule is valid: every entity that it names stands, and somebody qualifies.
pub record Valid (F : Facts) (t : Tree) : Type 0 where
  pub names : NamesStand F t
  pub somebody : Somebody F t

-- The entity that the node names, if it names one, stands.
abbrev pub node_stands : Facts → Node → Bool
node_stands F (Is l) = name_stands F l
node_stands F (Not l) = name_stands F l
node_stands F And = true
node_stands F Or = true

-- The place, counted from i, of the first node that names an entity that does not stand.
abbrev pub first_absent : Facts → ℕ → List Node → Option ℕ
first_absent F i [] = None
first_absent F i (n ∷ ns) = cond (node_stands F n) (first_absent F (i + 1) ns) (Some i)

-- There is no such node exactly if every entity that the rule names stands.
abbrev pub NamesChecked : Type 0
NamesChecked = (F : Facts) (r : Rule) → (first_absent F 0 (rule_nodes r) ≡ None) ↔ NamesStand F (rule_tree r)
