-- The slots of a book that hold a rule, by slot and along the list.
use Rattle.std.proofs.Common.{◌≡◌, ℕ, suc, ◌+◌, ◌<◌, List, [], ◌∷◌, length, get_or, Option, None, refl, sym, ap, ◌∙◌, arith}
use Rattle.rules.specs.declared.rule.Rule.{Rule}
use Rattle.rules.specs.Filled.{slot_first, held_from, filled_from}

pub same_filled : (slots : ℕ → Option Rule) (i : ℕ) (held : List (Option Rule)) → ((k : ℕ) → k < length held → slots (i + k) ≡ get_or held k None)
    → filled_from i held ≡ held_from slots i (length held)
unfolding held_from
same_filled slots i [] h = refl
same_filled slots i (x ∷ held) h =
    let here : slots i ≡ x = let e : i + 0 ≡ i = omega arith in sym (ap slots e) ∙ h 0 (omega arith) in
    let rest = same_filled slots (i + 1) held (λ k l. let e : i + 1 + k ≡ i + suc k = omega arith in ap slots e ∙ h (suc k) (omega arith)) in
    ap (slot_first i x) rest ∙ ap (λ (y : Option Rule). slot_first i y (held_from slots (i + 1) (length held))) (sym here)
