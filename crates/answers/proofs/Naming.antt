-- No node names an absent entity exactly if every name stands.
use Rattle.std.proofs.Common.{◌≡◌, ℕ, suc, ◌+◌, Bool, true, false, cond, not, ◌&&◌, nat_lt, List, [], ◌∷◌, ◌++◌, length, Some, None, Option, sym, refl, ap, ◌∙◌, zero-add, arith}
use Rattle.std.proofs.lemmas.Bool.{and_parts, and_from, cond-true}
use Rattle.std.proofs.lemmas.Bool.Decides.{nat_tests}
use Rattle.std.proofs.lemmas.List.Folds.{list_all-append}
use Rattle.std.specs.List.{list_all, position_or_len, position}
use Rattle.bits.proofs.Laws.{and-true}
use Rattle.model.specs.Facts.{Facts}
use Rattle.rules.specs.declared.node.Node.{Node}
use Rattle.rules.specs.declared.node.Node.TheVariants.{And, Or}
use Rattle.rules.specs.Trees.{Tree, is, isnt, both, either, nodes}
use Rattle.rules.specs.Rules.{rule_nodes, rule_tree}
use Rattle.rules.proofs.Accepts.{rules_are_trees}
use Rattle.answers.specs.Validity.{NamesStand, node_stands, first_absent, NamesChecked}

abbrev all_stand : Facts → List Node → Bool
all_stand F ns = list_all (node_stands F) ns

guard : (b : Bool) (x : Option ℕ) (i : ℕ) → cond b x (Some i) ≡ None → (b ≡ true) × (x ≡ None)
guard true x i e = (refl, e)
guard false x i e = let z : ◌≡◌ {A = ℕ} 0 1 = cc in absurd (omega arith)

none_all : (F : Facts) (i : ℕ) (ns : List Node) → first_absent F i ns ≡ None → all_stand F ns ≡ true
none_all F i [] e = refl
none_all F i (n ∷ ns) e = let g = guard (node_stands F n) (first_absent F (i + 1) ns) i e in and_from (node_stands F n) (all_stand F ns) g.0 (none_all F (i + 1) ns g.1)

all_none : (F : Facts) (i : ℕ) (ns : List Node) → all_stand F ns ≡ true → first_absent F i ns ≡ None
all_none F i [] e = refl
all_none F i (n ∷ ns) e = let g = and_parts (node_stands F n) (all_stand F ns) e in cond-true _ _ _ g.0 ∙ all_none F (i + 1) ns g.1

absent_more : (b : Bool) (x : Option ℕ) (i n m : ℕ) → x ≡ cond (nat_lt m n) (Some (i + 1 + m)) None
    → cond b x (Some i) ≡ cond (nat_lt (cond (not (not b)) (1 + m) 0) (suc n)) (Some (i + cond (not (not b)) (1 + m) 0)) None
absent_more true x i n m e = grind (arith, nat_tests)
absent_more false x i n m e = grind (arith, nat_tests)

absent_after : (F : Facts) (i : ℕ) (ns : List Node)
    → first_absent F i ns ≡ cond (nat_lt (position_or_len (λ v. not (node_stands F v)) ns) (length ns)) (Some (i + position_or_len (λ v. not (node_stands F v)) ns)) None
absent_after F i [] = refl
absent_after F i (n ∷ ns) = absent_more (node_stands F n) _ i (length ns) _ (absent_after F (i + 1) ns)

-- the first that names an absent entity, in the words of std
pub absent_position : (F : Facts) (ns : List Node) → first_absent F 0 ns ≡ position (λ v. not (node_stands F v)) ns
absent_position F ns =
    let n = position_or_len (λ v. not (node_stands F v)) ns in
    absent_after F 0 ns ∙ ap (λ (k : ℕ). cond (nat_lt n (length ns)) (Some k) None) (zero-add n)

-- an operator names nothing
all_of_two : (F : Facts) (s t : Tree) (v : Node) → node_stands F v ≡ true → all_stand F (nodes s ++ (nodes t ++ (v ∷ []))) ≡ (all_stand F (nodes s) && all_stand F (nodes t))
all_of_two F s t v e =
    list_all-append (node_stands F) (nodes s) (nodes t ++ (v ∷ []))
    ∙ ap (λ b. all_stand F (nodes s) && b) (list_all-append (node_stands F) (nodes t) (v ∷ []) ∙ and-true (all_stand F (nodes t)) (all_stand F (v ∷ [])) (and_from (node_stands F v) true e refl))

pub names_all : (F : Facts) (t : Tree) → NamesStand F t → all_stand F (nodes t) ≡ true
names_all F (is l) h = and_from _ true h refl
names_all F (isnt l) h = and_from _ true h refl
names_all F (both s t) h = all_of_two F s t And refl ∙ and_from _ _ (names_all F s h.0) (names_all F t h.1)
names_all F (either s t) h = all_of_two F s t Or refl ∙ and_from _ _ (names_all F s h.0) (names_all F t h.1)

all_names : (F : Facts) (t : Tree) → all_stand F (nodes t) ≡ true → NamesStand F t
all_names F (is l) h = (and_parts _ true h).0
all_names F (isnt l) h = (and_parts _ true h).0
all_names F (both s t) h = let p = and_parts _ _ (sym (all_of_two F s t And refl) ∙ h) in (all_names F s p.0, all_names F t p.1)
all_names F (either s t) h = let p = and_parts _ _ (sym (all_of_two F s t Or refl) ∙ h) in (all_names F s p.0, all_names F t p.1)

pub names_checked : NamesChecked
names_checked F r =
    let list = (rules_are_trees r).list in (
      λ e. all_names F (rule_tree r) (ap (all_stand F) list ∙ none_all F 0 (rule_nodes r) e),
      λ h. all_none F 0 (rule_nodes r) (ap (all_stand F) (sym list) ∙ names_all F (rule_tree r) h),
    )
