-- Sixteen answers suffice for 31 nodes.
use Rattle.std.proofs.Common.{◌≡◌, ℕ, ◌+◌, ◌-◌, ◌<◌, ◌≤◌, true, false, eqb, ltb, List, [], ◌∷◌, length, get_or, drop, None, sym, ap, ◌∙◌, ⊎_elim, arith}
use Rattle.std.proofs.lemmas.List.{at_drop_more, length-drop}
use Rattle.std.proofs.lemmas.Bool.{cases_Bool, cond-true, cond-false, eqb-true, ltb-false}
use Rattle.rules.specs.declared.node.Node.{Node}
use Rattle.rules.specs.declared.fault.Fault.TheVariants.{Shape}
use Rattle.rules.specs.Trees.{operator}
use Rattle.rules.specs.Scan.{bad_shape}
use Rattle.rules.specs.declared.rule.Rule.{Rule}
use Rattle.rules.specs.Rules.{rule_nodes}
use Rattle.rules.proofs.Accepts.{guard, guard_not, rule_short}
use Rattle.answers.specs.Stack.{height}

-- a node of a list without fault: an operator has two trees before it, and the rest goes on without fault
operator-step : (i d : ℕ) (v : Node) (ns : List Node) → bad_shape i d (v ∷ ns) ≡ None → operator v ≡ true → (2 ≤ d) × (bad_shape (i + 1) (d - 1) ns ≡ None)
operator-step i d v ns h e =
    let g = guard_not (ltb d 2) (bad_shape (i + 1) (d - 1) ns) (Shape i) (sym (cond-true (operator v) _ _ e) ∙ h) in
    (ltb-false d 2 g.0, g.1)

leaf-step : (i d : ℕ) (v : Node) (ns : List Node) → bad_shape i d (v ∷ ns) ≡ None → operator v ≡ false → bad_shape (i + 1) (d + 1) ns ≡ None
leaf-step i d v ns h e = sym (cond-false (operator v) _ _ e) ∙ h

-- no more trees can wait than the rest can join
room : (i d : ℕ) (ns : List Node) → bad_shape i d ns ≡ None → d ≤ length ns + 1
room i d [] h = let e = eqb-true d 1 (guard (eqb d 1) None (Shape i) h).0 in omega arith
room i d (v ∷ ns) h =
    ⊎_elim
    (λ e. let s = operator-step i d v ns h e in let r = room (i + 1) (d - 1) ns s.1 in omega arith)
    (λ e. let r = room (i + 1) (d + 1) ns (leaf-step i d v ns h e) in omega arith)
    (cases_Bool (operator v))

-- what a stack of d answers is asked at node v, which is node i, and what it has after it
pub record Fits (i d : ℕ) (v : Node) (rest : List Node) : Type 0 where
  pub leaf : operator v ≡ false → d < 16
  pub next : bad_shape (i + 1) (height d v) rest ≡ None
  pub fewer : height d v ≤ i + 1

pub fits : (r : Rule) (ns : List Node) → ns ≡ rule_nodes r → (i d : ℕ) (z : Node) → i < length ns → d ≤ i → bad_shape i d (drop i ns) ≡ None → Fits i d (get_or ns i z) (drop (i + 1) ns)
fits r ns list i d z l few h =
    let v = get_or ns i z in
    let rest = drop (i + 1) ns in
    let h' : bad_shape i d (v ∷ rest) ≡ None = sym (at_drop_more (bad_shape i d) ns i z l) ∙ h in
    let short : length ns ≤ 31 = let e = ap length list in let s = rule_short r in omega arith in
    let left = length-drop (i + 1) ns in
    record {
      leaf = λ e. let s = room (i + 1) (d + 1) rest (leaf-step i d v rest h' e) in omega arith;
      next = ⊎_elim
          (λ e. ap (λ (k : ℕ). bad_shape (i + 1) k rest) (cond-true (operator v) (d - 1) (d + 1) e) ∙ (operator-step i d v rest h' e).1)
          (λ e. ap (λ (k : ℕ). bad_shape (i + 1) k rest) (cond-false (operator v) (d - 1) (d + 1) e) ∙ leaf-step i d v rest h' e)
          (cases_Bool (operator v));
      fewer = ⊎_elim
          (λ e. let k = cond-true (operator v) (d - 1) (d + 1) e in omega arith)
          (λ e. let k = cond-false (operator v) (d - 1) (d + 1) e in omega arith)
          (cases_Bool (operator v));
    }
