-- The lists without fault are the lists of rules.
use Rattle.std.proofs.Common.{◌≡◌, ℕ, ◌+◌, ◌-◌, ◌≤◌, Bool, true, false, cond, ◌&&◌, eqb, ltb, List, [], ◌∷◌, ◌++◌, map, length, Some, None, Option, sym, refl, ap, ◌∙◌, subst, add-one, arith}
use Rattle.std.proofs.lemmas.List.{append_assoc, append-nil, length-append, length-map, length-take}
use Rattle.std.proofs.lemmas.Bool.{lt-ltb, le-ltb, ltb-true, ltb-false, eqb-true, cond-true, cond-false, and_parts, and_from, true≢false}
use Rattle.rules.specs.declared.node.Node.{Node}
use Rattle.rules.specs.declared.node.Node.TheVariants.{Is, Not, And, Or}
use Rattle.rules.specs.declared.bytes.NodeBytes.{NodeBytes}
use Rattle.rules.specs.declared.fault.Fault.{Fault}
use Rattle.rules.specs.declared.fault.Fault.TheVariants.{Length, Field, Shape}
use Rattle.rules.specs.declared.rule.Rule.{Rule}
use Rattle.rules.specs.Trees.{Tree, is, isnt, both, either, nodes, InRange}
use Rattle.rules.specs.Bytes.{allowed, node_of, node_bytes, node_in_range}
use Rattle.rules.specs.Scan.{bad_field, bad_list, bad_shape, or_else, fault_of, no_fault, nodes_in_range, one_rule, ListsARule, AcceptsRules}
use Rattle.rules.specs.Rules.{rule_nodes, rule_tree, trees, first_tree, RulesAreTrees}
use Rattle.rules.proofs.Coding.{bytes_exact}
use Rattle.rules.proofs.Parsed.{trees-whole}

some-none : {X : Type 0} (f : Fault) → ◌≡◌ {A = Option Fault} (Some f) None → X
some-none f e = absurd (cc)

pub guard : (b : Bool) (x : Option Fault) (f : Fault) → cond b x (Some f) ≡ None → (b ≡ true) × (x ≡ None)
guard true x f e = (refl, e)
guard false x f e = some-none f e

pub guard_not : (b : Bool) (x : Option Fault) (f : Fault) → cond b (Some f) x ≡ None → (b ≡ false) × (x ≡ None)
guard_not true x f e = some-none f e
guard_not false x f e = (refl, e)

or-none : (x y : Option Fault) → or_else x y ≡ None → (x ≡ None) × (y ≡ None)
or-none None y e = (refl, e)
or-none (Some f) y e = some-none f e

-- ── From nodes to a tree ──
flat : List Tree → List Node
flat [] = []
flat (t ∷ ts) = flat ts ++ nodes t

AllInRange : List Tree → Type 0
AllInRange [] = Unit {0}
AllInRange (t ∷ ts) = InRange t × AllInRange ts

abbrev Found : List Node → Type 0
Found ns = (t : Tree) × (InRange t × (nodes t ≡ ns))

pair_list : (us : List Tree) (l r : Tree) (m : Node) (ns : List Node) → (flat us ++ (nodes l ++ (nodes r ++ (m ∷ [])))) ++ ns ≡ ((flat us ++ nodes l) ++ nodes r) ++ (m ∷ ns)
pair_list us l r m ns = simp append_assoc

-- an operator takes the last two trees
under : (n : Node) (f : Tree → Tree → Tree) → ((s t : Tree) → nodes (f s t) ≡ nodes s ++ (nodes t ++ (n ∷ []))) → ((s t : Tree) → InRange s → InRange t → InRange (f s t))
    → (ns : List Node) (ts : List Tree) → AllInRange ts → 2 ≤ length ts
    → ((us : List Tree) → AllInRange us → length us ≡ length ts - 1 → Found (flat us ++ ns)) → Found (flat ts ++ (n ∷ ns))
unfolding flat AllInRange
under n f list range ns [] p h k = absurd (omega arith)
under n f list range ns (r ∷ []) p h k = absurd (omega arith)
under n f list range ns (r ∷ (l ∷ us)) p h k =
    subst Found (ap (λ xs. (flat us ++ xs) ++ ns) (list l r) ∙ pair_list us l r n ns) (k (f l r ∷ us) (range l r p.1.0 p.0, p.1.1) (omega arith))

build : (ns : List Node) (i : ℕ) (ts : List Tree) → AllInRange ts → nodes_in_range ns ≡ true → bad_shape i (length ts) ns ≡ None → Found (flat ts ++ ns)
unfolding flat AllInRange
build [] i [] p f s = absurd (some-none (Shape i) s)
build [] i (t ∷ []) p f s = (t, (p.0, sym (append-nil (nodes t))))
build [] i (t ∷ (u ∷ ts)) p f s = absurd (omega (arith, eqb-true _ _ (guard (eqb (length (t ∷ (u ∷ ts))) 1) None (Shape i) s).0))
build (Is l ∷ ns) i ts p f s =
    let g = and_parts _ (nodes_in_range ns) f in
    let s' : bad_shape (i + 1) (length (is l ∷ ts)) ns ≡ None = rw (add-one (length ts)) at s in
    subst Found (append_assoc (flat ts) (Is l ∷ []) ns) (build ns (i + 1) (is l ∷ ts) (g.0, p) g.1 s')
build (Not l ∷ ns) i ts p f s =
    let g = and_parts _ (nodes_in_range ns) f in
    let s' : bad_shape (i + 1) (length (isnt l ∷ ts)) ns ≡ None = rw (add-one (length ts)) at s in
    subst Found (append_assoc (flat ts) (Not l ∷ []) ns) (build ns (i + 1) (isnt l ∷ ts) (g.0, p) g.1 s')
build (And ∷ ns) i ts p f s =
    let d = guard_not (ltb (length ts) 2) (bad_shape (i + 1) (length ts - 1) ns) (Shape i) s in
    under And both (λ a b. refl) (λ a b x y. (x, y)) ns ts p (ltb-false _ _ d.0)
    (λ us q e. build ns (i + 1) us q f (ap (λ c. bad_shape (i + 1) c ns) e ∙ d.1))
build (Or ∷ ns) i ts p f s =
    let d = guard_not (ltb (length ts) 2) (bad_shape (i + 1) (length ts - 1) ns) (Shape i) s in
    under Or either (λ a b. refl) (λ a b x y. (x, y)) ns ts p (ltb-false _ _ d.0)
    (λ us q e. build ns (i + 1) us q f (ap (λ c. bad_shape (i + 1) c ns) e ∙ d.1))

no_fault-none : (o : Option Fault) → no_fault o ≡ true → o ≡ None
no_fault-none None e = refl
no_fault-none (Some f) e = absurd (true≢false (sym e))

pub found : (ns : List Node) → one_rule ns ≡ true → Found ns
unfolding flat AllInRange
found ns e = let p = and_parts (nodes_in_range ns) (no_fault (bad_shape 0 0 ns)) e in build ns 0 [] tt p.0 (no_fault-none (bad_shape 0 0 ns) p.1)

-- ── From a tree to nodes ──
pub shape_tree : (t : Tree) (d : ℕ) (ns : List Node) → ((j : ℕ) → bad_shape j (d + 1) ns ≡ None) → (i : ℕ) → bad_shape i d (nodes t ++ ns) ≡ None
shape_tree (is l) d ns k i = k (i + 1)
shape_tree (isnt l) d ns k i = k (i + 1)
shape_tree (both l r) d ns k i =
    simp append_assoc (shape_tree l d _ (shape_tree r (d + 1) (And ∷ ns) (λ j. down j)) i)
  where
    down : (j : ℕ) → bad_shape j (d + 1 + 1) (And ∷ ns) ≡ None
    down j =
        let less : d + 1 + 1 - 1 ≡ d + 1 = omega arith in
        cond-false _ _ _ (le-ltb (d + 1 + 1) 2 (omega arith)) ∙ ap (λ x. bad_shape (j + 1) x ns) less ∙ k (j + 1)
shape_tree (either l r) d ns k i =
    simp append_assoc (shape_tree l d _ (shape_tree r (d + 1) (Or ∷ ns) (λ j. down j)) i)
  where
    down : (j : ℕ) → bad_shape j (d + 1 + 1) (Or ∷ ns) ≡ None
    down j =
        let less : d + 1 + 1 - 1 ≡ d + 1 = omega arith in
        cond-false _ _ _ (le-ltb (d + 1 + 1) 2 (omega arith)) ∙ ap (λ x. bad_shape (j + 1) x ns) less ∙ k (j + 1)

pub shape_whole : (t : Tree) → bad_shape 0 0 (nodes t) ≡ None
shape_whole t = ap (bad_shape 0 0) (sym (append-nil (nodes t))) ∙ shape_tree t 0 [] (λ j. refl) 0

range-append : (ns ms : List Node) → nodes_in_range ns ≡ true → nodes_in_range ms ≡ true → nodes_in_range (ns ++ ms) ≡ true
range-append [] ms p q = q
range-append (n ∷ ns) ms p q = let g = and_parts (node_in_range n) (nodes_in_range ns) p in and_from (node_in_range n) (nodes_in_range (ns ++ ms)) g.0 (range-append ns ms g.1 q)

pub range_tree : (t : Tree) → InRange t → nodes_in_range (nodes t) ≡ true
range_tree (is l) p = and_from _ true p refl
range_tree (isnt l) p = and_from _ true p refl
range_tree (both s t) p = range-append (nodes s) _ (range_tree s p.0) (range-append (nodes t) _ (range_tree t p.1) refl)
range_tree (either s t) p = range-append (nodes s) _ (range_tree s p.0) (range-append (nodes t) _ (range_tree t p.1) refl)

some-nodes : (t : Tree) → 1 ≤ length (nodes t)
some-nodes (is l) = omega arith
some-nodes (isnt l) = omega arith
some-nodes (both l r) = simp length-append (omega (arith, some-nodes l))
some-nodes (either l r) = simp length-append (omega (arith, some-nodes l))

-- ── Bytes ──
fields : (i : ℕ) (bs : List NodeBytes) → bad_field i bs ≡ None → (nodes_in_range (map node_of bs) ≡ true) × (map node_bytes (map node_of bs) ≡ bs)
fields i [] e = (refl, refl)
fields i (b ∷ bs) e =
    let g = guard (allowed b) (bad_field (i + 1) bs) (Field i) e in
    let r = fields (i + 1) bs g.1 in
    let x = bytes_exact.back b g.0 in
    let same : node_bytes (node_of b) ≡ b = x.1 in
    let rest : map node_bytes (map node_of bs) ≡ bs = r.1 in
    (and_from _ _ x.0 r.0, cc)

fields_back : (i : ℕ) (ns : List Node) → nodes_in_range ns ≡ true → (bad_field i (map node_bytes ns) ≡ None) × (map node_of (map node_bytes ns) ≡ ns)
fields_back i [] e = (refl, refl)
fields_back i (n ∷ ns) e =
    let g = and_parts (node_in_range n) (nodes_in_range ns) e in
    let r = fields_back (i + 1) ns g.1 in
    let x = bytes_exact.forth n g.0 in
    let same : node_of (node_bytes n) ≡ n = x.1 in
    let rest : map node_of (map node_bytes ns) ≡ ns = r.1 in
    (cond-true _ _ _ x.0 ∙ r.0, cc)

-- nodes without a fault in field or shape are one rule
pub whole : (bs : List NodeBytes) → bad_field 0 bs ≡ None → bad_shape 0 0 (map node_of bs) ≡ None → one_rule (map node_of bs) ≡ true
whole bs e h = and_from (nodes_in_range (map node_of bs)) (no_fault (bad_shape 0 0 (map node_of bs))) (fields 0 bs e).0 (ap no_fault h)

-- and so are the nodes that a list was read into
pub read-whole : (bs : List NodeBytes) (ns : List Node) → bad_list bs ≡ None → ns ≡ map node_of bs → bad_shape 0 0 ns ≡ None → one_rule ns ≡ true
read-whole bs ns e n h = ap one_rule n ∙ whole bs (guard (ltb 0 (length bs) && ltb (length bs) 32) (bad_field 0 bs) Length e).1 (ap (bad_shape 0 0) (sym n) ∙ h)

-- a list without fault decodes to one rule
pub sound-list : (bs : List NodeBytes) → fault_of bs ≡ None → (length bs ≤ 31) × (one_rule (map node_of bs) ≡ true) × (map node_bytes (map node_of bs) ≡ bs)
sound-list bs e =
    let g = guard (ltb 0 (length bs) && ltb (length bs) 32) _ Length e in
    let h = or-none (bad_field 0 bs) (bad_shape 0 0 (map node_of bs)) g.1 in (
      omega (arith, ltb-true (length bs) 32 (and_parts (ltb 0 (length bs)) (ltb (length bs) 32) g.0).1),
      whole bs h.0 h.1,
      (fields 0 bs h.0).1,
    )

to_rule : (bs : List NodeBytes) → fault_of bs ≡ None → ListsARule bs
to_rule bs e =
    let s = sound-list bs e in
    let t = found (map node_of bs) s.1 in
    (t.0, (t.1.0, ap (map node_bytes) t.1.1 ∙ s.2, s.0))

from_rule : (bs : List NodeBytes) → ListsARule bs → fault_of bs ≡ None
from_rule bs (t, (range, e, small)) =
    let f = fields_back 0 (nodes t) (range_tree t range) in
    let long : length bs ≡ length (nodes t) = ap length (sym e) ∙ length-map (nodes t) node_bytes in
    let size : 1 ≤ length bs = omega (arith, some-nodes t) in
    cond-true _ _ _ (and_from _ _ (lt-ltb _ _ size) (lt-ltb _ _ (omega arith)))
    ∙ ap (λ xs. or_else (bad_field 0 xs) (bad_shape 0 0 (map node_of xs))) (sym e)
    ∙ ap (λ x. or_else x (bad_shape 0 0 (map node_of (map node_bytes (nodes t))))) f.0
    ∙ ap (bad_shape 0 0) f.1
    ∙ shape_whole t

pub accepts : AcceptsRules
accepts bs = (to_rule bs, from_rule bs)

-- a rule's nodes leave one tree
pub rule-trees : (r : Rule) → trees [] (rule_nodes r) ≡ rule_tree r ∷ []
unfolding rule_tree
rule-trees r =
    let t = found (rule_nodes r) r.whole in
    let one : trees [] (rule_nodes r) ≡ t.0 ∷ [] = ap (trees []) (sym t.1.1) ∙ trees-whole t.0 in
    one ∙ ap (λ (ts : List Tree). first_tree ts ∷ []) (sym one)

pub rules_are_trees : RulesAreTrees
rules_are_trees r =
    let t = found (rule_nodes r) r.whole in
    let one : t.0 ∷ [] ≡ rule_tree r ∷ [] = sym (ap (trees []) (sym t.1.1) ∙ trees-whole t.0) ∙ rule-trees r in
    let same : rule_tree r ≡ t.0 = cc in
    record { list = ap nodes same ∙ t.1.1; range = subst InRange (sym same) t.1.0 }

-- and have no fault in their shape
pub rule_shape : (r : Rule) → bad_shape 0 0 (rule_nodes r) ≡ None
rule_shape r = no_fault-none (bad_shape 0 0 (rule_nodes r)) (and_parts (nodes_in_range (rule_nodes r)) (no_fault (bad_shape 0 0 (rule_nodes r))) r.whole).1

pub rule_short : (r : Rule) → length (rule_nodes r) ≤ 31
rule_short r = let e = length-take r.list.len r.list.nodes in let s = r.list.short in omega arith
