-- A rule as text: byte codes.
use Rattle.std.specs.Prelude.{ℕ, Bool, true, false, cond, ◌||◌, List, [], ◌++◌, codes, decimal}
use Rattle.model.specs.Sides.{side_text}
use Rattle.rules.specs.declared.node.Leaf.{Leaf}
use Rattle.rules.specs.declared.node.Leaf.TheVariants.{Actor, Group}
use Rattle.rules.specs.declared.rule.Rule.{Rule}
use Rattle.rules.specs.Trees.{Tree, is, isnt, both, either}
use Rattle.rules.specs.Rules.{rule_tree}

-- The (+), where a leaf has it.
abbrev pub plus_text : Bool → List ℕ
plus_text plus = cond plus (codes "(+)") []

-- A leaf: its kind, = and its number, and the (+) where it has it, as Actor=3 and Unit=2(+).
abbrev pub leaf_text : Leaf → List ℕ
leaf_text (Actor a) = codes "Actor=" ++ decimal a
leaf_text (Group k n plus) = side_text k ++ (codes "=" ++ (decimal n ++ plus_text plus))

-- A text in parentheses, where they are wanted.
abbrev pub in_parens : Bool → List ℕ → List ℕ
in_parens true s = codes "(" ++ (s ++ codes ")")
in_parens false s = s

-- The tree is an AND.
abbrev pub is_and : Tree → Bool
is_and (is l) = false
is_and (isnt l) = false
is_and (both s t) = true
is_and (either s t) = false

-- The tree is an OR.
abbrev pub is_or : Tree → Bool
is_or (is l) = false
is_or (isnt l) = false
is_or (both s t) = false
is_or (either s t) = true

-- The tree is an AND or an OR.
abbrev pub compound : Tree → Bool
compound t = is_and t || is_or t

-- A tree: AND and OR between their parts. A left part is in parentheses where it is the other operator, and a right part where it is any.
abbrev pub tree_text : Tree → List ℕ
tree_text (is l) = leaf_text l
tree_text (isnt l) = codes "NOT " ++ leaf_text l
tree_text (both s t) = in_parens (is_or s) (tree_text s) ++ (codes " AND " ++ in_parens (compound t) (tree_text t))
tree_text (either s t) = in_parens (is_and s) (tree_text s) ++ (codes " OR " ++ in_parens (compound t) (tree_text t))

-- The text of a rule is its tree's.
abbrev pub rule_text : Rule → List ℕ
rule_text r = tree_text (rule_tree r)
