-- Joined and split rules: their node lists, and that they are rules.
use Rattle.std.proofs.Common.{◌≡◌, ℕ, ◌<◌, Bool, true, false, cond, ltb, List, [], ◌∷◌, ◌++◌, map, sym, refl, ap, ◌∙◌}
use Rattle.std.proofs.lemmas.List.{append_assoc, map-append}
use Rattle.std.proofs.lemmas.Bool.{and_from, cond_both, lt-ltb}
use Rattle.model.specs.declared.side.Side.{Side}
use Rattle.rules.specs.declared.node.Leaf.{Leaf}
use Rattle.rules.specs.declared.node.Leaf.TheVariants.{Actor, Group}
use Rattle.rules.specs.declared.node.Node.{Node}
use Rattle.rules.specs.declared.node.Node.TheVariants.{Is, Not, And, Or}
use Rattle.rules.specs.declared.rule.Rule.{Rule}
use Rattle.rules.specs.Trees.{Tree, is, isnt, both, either, nodes, in_range, InRange}
use Rattle.rules.specs.Scan.{bad_shape, no_fault, nodes_in_range, one_rule}
use Rattle.rules.specs.Rules.{rule_nodes, rule_tree}
use Rattle.rules.specs.declared.change.Joining.{Joining}
use Rattle.rules.specs.declared.change.Splitting.{Splitting}
use Rattle.rules.specs.Changes.{node_joined, tree_joined, nodes_split, tree_split}
use Rattle.rules.specs.Edits.{same_side, joins, renamed, joined_leaf, joined_rule, JoinsNodes, names, numbered, split_rule, split_node, split_nodes, SplitsNodes}
use Rattle.rules.proofs.Accepts.{shape_whole, range_tree, rules_are_trees}
use Rattle.rules.proofs.Parsed.{one_tree}

-- the nodes of a tree are one rule
one_rule_tree : (t : Tree) → InRange t → one_rule (nodes t) ≡ true
one_rule_tree t p = and_from (nodes_in_range (nodes t)) (no_fault (bad_shape 0 0 (nodes t))) (range_tree t p) (ap no_fault (shape_whole t))

-- and a rule with those nodes is that tree
rule_tree-is : (r : Rule) (t : Tree) → rule_nodes r ≡ nodes t → rule_tree r ≡ t
rule_tree-is r t e = one_tree (rule_tree r) t ((rules_are_trees r).list ∙ e)

-- ── Joining ──
pub joins-nodes : JoinsNodes
joins-nodes k e f n (is l) = refl
joins-nodes k e f n (isnt l) = refl
joins-nodes k e f n (both s t) = simp (map-append, joins-nodes k e f n s, joins-nodes k e f n t)
joins-nodes k e f n (either s t) = simp (map-append, joins-nodes k e f n s, joins-nodes k e f n t)

module _ (k : Side) (e f n : ℕ) where
  joined_leaf-range : n < 64 → (l : Leaf) → in_range l ≡ true → in_range (joined_leaf k e f n l) ≡ true
  joined_leaf-range h (Actor a) p = p
  joined_leaf-range h (Group j r plus) p =
      let below : ℕ → Type 0 = λ x. ltb x 64 ≡ true in
      cond_both (same_side j k) (renamed e f n r) r below (λ _. cond_both (joins e f r) n r below (λ _. lt-ltb n 64 h) (λ _. p)) (λ _. p)

  joined-range : n < 64 → (t : Tree) → InRange t → InRange (joined_rule k e f n t)
  joined-range h (is l) p = joined_leaf-range h l p
  joined-range h (isnt l) p = joined_leaf-range h l p
  joined-range h (both s t) p = (joined-range h s p.0, joined-range h t p.1)
  joined-range h (either s t) p = (joined-range h s p.0, joined-range h t p.1)

module _ (j : Joining) (r : Rule) where
  joined-list : map (node_joined j) (rule_nodes r) ≡ nodes (tree_joined j (rule_tree r))
  joined-list = ap (map (node_joined j)) (sym (rules_are_trees r).list) ∙ sym (joins-nodes j.side j.first j.second j.into (rule_tree r))

  -- a rule's nodes, each one joined, are one rule
  pub joined-whole : j.into < 64 → one_rule (map (node_joined j) (rule_nodes r)) ≡ true
  joined-whole h =
      ap one_rule joined-list
      ∙ one_rule_tree (tree_joined j (rule_tree r)) (joined-range j.side j.first j.second j.into h (rule_tree r) (rules_are_trees r).range)

  -- and that rule is the tree joined
  pub joined_tree : (v : Rule) → rule_nodes v ≡ map (node_joined j) (rule_nodes r) → rule_tree v ≡ tree_joined j (rule_tree r)
  joined_tree v p = rule_tree-is v (tree_joined j (rule_tree r)) (p ∙ joined-list)

-- ── Splitting ──
module _ (k : Side) (e n1 n2 : ℕ) where
  split-append : (vs ws : List Node) → split_nodes k e n1 n2 (vs ++ ws) ≡ split_nodes k e n1 n2 vs ++ split_nodes k e n1 n2 ws
  split-append [] ws = refl
  split-append (v ∷ vs) ws =
      ap (λ (z : List Node). split_node k e n1 n2 v ++ z) (split-append vs ws)
      ∙ sym (append_assoc (split_node k e n1 n2 v) (split_nodes k e n1 n2 vs) (split_nodes k e n1 n2 ws))

  split-is : (l : Leaf) (b : Bool) → nodes (cond b (either (is (numbered l n1)) (is (numbered l n2))) (is l)) ≡ cond b (Is (numbered l n1) ∷ (Is (numbered l n2) ∷ (Or ∷ []))) (Is l ∷ []) ++ []
  split-is l true = refl
  split-is l false = refl

  split-isnt : (l : Leaf) (b : Bool) → nodes (cond b (both (isnt (numbered l n1)) (isnt (numbered l n2))) (isnt l)) ≡ cond b (Not (numbered l n1) ∷ (Not (numbered l n2) ∷ (And ∷ []))) (Not l ∷ []) ++ []
  split-isnt l true = refl
  split-isnt l false = refl

pub splits_nodes : SplitsNodes
splits_nodes k e n1 n2 (is l) = split-is k e n1 n2 l (names k e l)
splits_nodes k e n1 n2 (isnt l) = split-isnt k e n1 n2 l (names k e l)
splits_nodes k e n1 n2 (both s t) = simp (split-append k e n1 n2, splits_nodes k e n1 n2 s, splits_nodes k e n1 n2 t)
splits_nodes k e n1 n2 (either s t) = simp (split-append k e n1 n2, splits_nodes k e n1 n2 s, splits_nodes k e n1 n2 t)

numbered-range : (n : ℕ) → n < 64 → (l : Leaf) → in_range l ≡ true → in_range (numbered l n) ≡ true
numbered-range n h (Actor a) p = p
numbered-range n h (Group j r plus) p = lt-ltb n 64 h

module _ (k : Side) (e n1 n2 : ℕ) where
  split-range : n1 < 64 → n2 < 64 → (t : Tree) → InRange t → InRange (split_rule k e n1 n2 t)
  split-range h1 h2 (is l) p = cond_both (names k e l) _ _ InRange (λ _. (numbered-range n1 h1 l p, numbered-range n2 h2 l p)) (λ _. p)
  split-range h1 h2 (isnt l) p = cond_both (names k e l) _ _ InRange (λ _. (numbered-range n1 h1 l p, numbered-range n2 h2 l p)) (λ _. p)
  split-range h1 h2 (both s t) p = (split-range h1 h2 s p.0, split-range h1 h2 t p.1)
  split-range h1 h2 (either s t) p = (split-range h1 h2 s p.0, split-range h1 h2 t p.1)

module _ (s : Splitting) (r : Rule) where
  pub split-list : nodes_split s (rule_nodes r) ≡ nodes (tree_split s (rule_tree r))
  split-list = ap (nodes_split s) (sym (rules_are_trees r).list) ∙ sym (splits_nodes s.side s.whole s.part1 s.part2 (rule_tree r))

  -- a rule's nodes, each one split, are one rule
  pub split-whole : s.part1 < 64 → s.part2 < 64 → one_rule (nodes_split s (rule_nodes r)) ≡ true
  split-whole h1 h2 =
      ap one_rule split-list
      ∙ one_rule_tree (tree_split s (rule_tree r)) (split-range s.side s.whole s.part1 s.part2 h1 h2 (rule_tree r) (rules_are_trees r).range)

  -- and that rule is the tree split
  pub split_tree : (v : Rule) → rule_nodes v ≡ nodes_split s (rule_nodes r) → rule_tree v ≡ tree_split s (rule_tree r)
  split_tree v p = rule_tree-is v (tree_split s (rule_tree r)) (p ∙ split-list)
