-- The last node of a tree, and what stands before it.
use Rattle.std.proofs.Common.{◌≡◌, List, [], ◌∷◌, ◌++◌, length, sym, refl, ap, ◌∙◌, arith}
use Rattle.std.proofs.lemmas.List.{append_assoc, length_push, same_from_push}
use Rattle.rules.specs.declared.node.Node.{Node}
use Rattle.rules.specs.declared.node.Node.TheVariants.{And, Or}
use Rattle.rules.specs.Trees.{Tree, is, isnt, both, either, nodes}
use Rattle.rules.specs.Parts.{top}

abbrev pub below : Tree → List Node
below (is l) = []
below (isnt l) = []
below (both s t) = nodes s ++ nodes t
below (either s t) = nodes s ++ nodes t

pub nodes-top : (t : Tree) → nodes t ≡ below t ++ (top t ∷ [])
nodes-top (is l) = refl
nodes-top (isnt l) = refl
nodes-top (both s t) = sym (append_assoc (nodes s) (nodes t) (And ∷ []))
nodes-top (either s t) = sym (append_assoc (nodes s) (nodes t) (Or ∷ []))

pub never_empty : {X : Type 0} (t : Tree) → length (nodes t) ≡ 0 → X
never_empty t e = absurd (omega (arith, ap length (nodes-top t), length_push (below t) (top t)))

-- a tree that ends in a node
pub from_push : (t : Tree) (front ns : List Node) (n : Node) → front ++ nodes t ≡ ns ++ (n ∷ []) → (front ++ below t ≡ ns) × (top t ≡ n)
from_push t front ns n e =
    same_from_push (front ++ below t) ns (top t) n
    (append_assoc front (below t) (top t ∷ []) ∙ ap (λ (xs : List Node). front ++ xs) (sym (nodes-top t)) ∙ e)

pub ended : (t : Tree) (all ns : List Node) (n : Node) → nodes t ≡ all → all ≡ ns ++ (n ∷ []) → (below t ≡ ns) × (top t ≡ n)
ended t all ns n e h = from_push t [] ns n (e ∙ h)
