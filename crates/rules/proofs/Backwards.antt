-- Trees taken from the end of a node list, node by node.
use Rattle.std.proofs.Common.{◌≡◌, ℕ, zero, suc, ◌+◌, ◌-◌, ◌<◌, true, false, List, [], ◌∷◌, ◌++◌, length, sym, refl, ap, ◌∙◌, subst, arith}
use Rattle.std.proofs.lemmas.List.{append_assoc, append-nil, length-append}
use Rattle.std.proofs.lemmas.Bool.{true≢false}
use Rattle.rules.specs.declared.node.Node.{Node}
use Rattle.rules.specs.Trees.{Tree, is, isnt, both, either, nodes, operator}
use Rattle.rules.specs.Parts.{top}
use Rattle.rules.proofs.Tops.{below, from_push, never_empty}

-- the list is the front and then that many trees
abbrev pub Followed : List Node → ℕ → List Node → Type 0
Followed front zero ns = front ≡ ns
Followed front (suc k) ns = (t : Tree) × (mid : List Node) × Followed front k mid × (mid ++ nodes t ≡ ns)

one_less : (t : Tree) (mid ns : List Node) → operator (top t) ≡ false → mid ++ below t ≡ ns → mid ≡ ns
one_less (is l) mid ns o e = sym (append-nil mid) ∙ e
one_less (isnt l) mid ns o e = sym (append-nil mid) ∙ e
one_less (both a b) mid ns o e = absurd (true≢false o)
one_less (either a b) mid ns o e = absurd (true≢false o)

-- before a leaf one tree less is wanted
pub before-leaf : (front ns : List Node) (n : Node) (k : ℕ) → operator n ≡ false → 0 < k → Followed front k (ns ++ (n ∷ [])) → Followed front (k - 1) ns
before-leaf front ns n zero o h f = absurd (omega arith)
before-leaf front ns n (suc k) o h (t, mid, rest, e) =
    let p = from_push t mid ns n e in
    let less : k ≡ suc k - 1 = omega arith in
    subst (λ (m : ℕ). Followed front m ns) less (subst (Followed front k) (one_less t mid ns (ap operator p.1 ∙ o) p.0) rest)

one_more : (t : Tree) (front mid ns : List Node) (k : ℕ) → operator (top t) ≡ true → mid ++ below t ≡ ns → Followed front k mid → Followed front (suc (suc k)) ns
one_more (is l) front mid ns k o e rest = absurd (true≢false (sym o))
one_more (isnt l) front mid ns k o e rest = absurd (true≢false (sym o))
one_more (both a b) front mid ns k o e rest = (b, mid ++ nodes a, (a, mid, rest, refl), append_assoc mid (nodes a) (nodes b) ∙ e)
one_more (either a b) front mid ns k o e rest = (b, mid ++ nodes a, (a, mid, rest, refl), append_assoc mid (nodes a) (nodes b) ∙ e)

-- before an operator one more
pub before-operator : (front ns : List Node) (n : Node) (k : ℕ) → operator n ≡ true → 0 < k → Followed front k (ns ++ (n ∷ [])) → Followed front (k + 1) ns
before-operator front ns n zero o h f = absurd (omega arith)
before-operator front ns n (suc k) o h (t, mid, rest, e) =
    let p = from_push t mid ns n e in
    let more : suc (suc k) ≡ suc k + 1 = omega arith in
    subst (λ (m : ℕ). Followed front m ns) more (one_more t front mid ns k (ap operator p.1 ∙ o) p.0 rest)

-- where no node is left no tree is wanted
pub none_left : {X : Type 0} (front ns : List Node) (k : ℕ) → length ns ≡ 0 → 0 < k → Followed front k ns → X
none_left front ns zero z h f = absurd (omega arith)
none_left front ns (suc k) z h (t, mid, rest, e) =
    never_empty t (omega (arith, ap length e, length-append mid (nodes t)))
