-- The slots of a book.
use Rattle.std.proofs.Common.{◌≡◌, ℕ, ◌+◌, ◌<◌, ◌≤◌, true, false, cond, eqb, ltb, ◌⊎◌, List, [], map, None, sym, ap, ◌∙◌, inl, inr, ⊎_elim, arith}
use Rattle.std.proofs.lemmas.Bool.{cases_Bool, cond-true, cond-false, eqb-true, eqb-false, ne_eqb, ltb-true, ltb-false, lt-ltb, le-ltb}
use Rattle.rules.specs.Bytes.{node_of}
use Rattle.rules.specs.Rules.{rule_tree, rule_nodes, first_tree, trees}
use Rattle.rules.specs.Trees.{Tree}
use Rattle.rules.specs.declared.book.Book.{Book}
use Rattle.rules.specs.declared.bytes.NodeBytes.{NodeBytes}
use Rattle.rules.specs.declared.node.Node.{Node}
use Rattle.rules.specs.declared.rule.Rule.{Rule}
use Rattle.drafts.specs.Slots.{Slots, edited, each_edited, slots_of, tree_in, tree_of}

-- a rule read from a list is the list's tree
pub read_tree : (r : Rule) (list : List NodeBytes) → rule_nodes r ≡ map node_of list → rule_tree r ≡ tree_of list
unfolding rule_tree
read_tree r list h = ap (λ (ns : List Node). first_tree (trees [] ns)) h

-- ── editing slot after slot ──

-- the slots before slot k are edited, the others as they were
abbrev pub so_far : (Tree → Tree) → Slots → ℕ → Slots
so_far g B k i = cond (ltb i k) (edited g (B i)) (B i)

pub none_yet : (g : Tree → Tree) (B : Slots) (i : ℕ) → B i ≡ so_far g B 0 i
none_yet g B i = sym (cond-false (ltb i 0) _ _ (le-ltb i 0 (omega arith)))

pub one_more : (g : Tree → Tree) (B C D : Slots) (k : ℕ) → ((i : ℕ) → C i ≡ so_far g B k i) → ((i : ℕ) → D i ≡ cond (eqb i k) (edited g (C i)) (C i)) → (i : ℕ) → D i ≡ so_far g B (k + 1) i
one_more g B C D k was now i =
    ⊎_elim
    (λ (e : i < k).
    now i ∙ cond-false (eqb i k) _ _ (ne_eqb i k (λ h. omega arith)) ∙ was i ∙ cond-true (ltb i k) _ _ (lt-ltb i k e) ∙ sym (cond-true (ltb i (k + 1)) _ _ (lt-ltb i (k + 1) (omega arith))))
    (λ (e : k ≤ i).
    ⊎_elim
    (λ (h : eqb i k ≡ true).
    let same = eqb-true i k h in
    now i ∙ cond-true (eqb i k) _ _ h ∙ ap (edited g) (was i ∙ cond-false (ltb i k) _ _ (le-ltb i k e)) ∙ sym (cond-true (ltb i (k + 1)) _ _ (lt-ltb i (k + 1) (omega arith))))
    (λ (h : eqb i k ≡ false).
    let other = eqb-false i k h in
    now i ∙ cond-false (eqb i k) _ _ h ∙ was i ∙ cond-false (ltb i k) _ _ (le-ltb i k e) ∙ sym (cond-false (ltb i (k + 1)) _ _ (le-ltb i (k + 1) (past i k e other))))
    (cases_Bool (eqb i k)))
    (before i k)
  where
    before : (i k : ℕ) → (i < k) ⊎ (k ≤ i)
    before i k = ⊎_elim (λ (h : ltb i k ≡ true). inl (ltb-true i k h)) (λ (h : ltb i k ≡ false). inr (ltb-false i k h)) (cases_Bool (ltb i k))

    past : (i k : ℕ) → k ≤ i → (i ≡ k → ⊥) → k + 1 ≤ i
    past i k e d = ⊎_elim (λ (h : k < i). omega arith) (λ (h : i ≤ k). absurd (d (omega arith))) (before k i)

-- a book has no rule past slot 31
pub no_rule_past : (b : Book) (i : ℕ) → 32 ≤ i → slots_of b i ≡ None
no_rule_past b i h = ap tree_in (cond-false (ltb i 32) _ _ (le-ltb i 32 h))

pub all_edited : (g : Tree → Tree) (b : Book) (i : ℕ) → so_far g (slots_of b) 32 i ≡ each_edited g (slots_of b) i
all_edited g b i =
    ⊎_elim
    (λ (h : ltb i 32 ≡ true). cond-true (ltb i 32) _ _ h)
    (λ (h : ltb i 32 ≡ false).
    let none = no_rule_past b i (ltb-false i 32 h) in
    cond-false (ltb i 32) _ _ h ∙ none ∙ sym (ap (edited g) none))
    (cases_Bool (ltb i 32))
