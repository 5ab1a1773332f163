-- A node list read back into trees.
use Rattle.std.proofs.Common.{◌≡◌, List, [], ◌∷◌, ◌++◌, sym, refl, ap, ◌∙◌}
use Rattle.std.proofs.lemmas.List.{append_assoc, append-nil}
use Rattle.rules.specs.declared.node.Node.{Node}
use Rattle.rules.specs.declared.node.Node.TheVariants.{And, Or}
use Rattle.rules.specs.Trees.{Tree, is, isnt, both, either, nodes, OneTree}
use Rattle.rules.specs.Rules.{grown, trees}

-- a tree's nodes leave that tree on top of what was there
pub trees_of : (t : Tree) (rest : List Node) (ts : List Tree) → trees ts (nodes t ++ rest) ≡ trees (t ∷ ts) rest
trees_of (is l) rest ts = refl
trees_of (isnt l) rest ts = refl
trees_of (both t u) rest ts =
    rw (append_assoc (nodes t) (nodes u ++ (And ∷ [])) rest, append_assoc (nodes u) (And ∷ []) rest, trees_of t, trees_of u)
trees_of (either t u) rest ts =
    rw (append_assoc (nodes t) (nodes u ++ (Or ∷ [])) rest, append_assoc (nodes u) (Or ∷ []) rest, trees_of t, trees_of u)

pub trees-whole : (t : Tree) → trees [] (nodes t) ≡ t ∷ []
trees-whole t = ap (trees []) (sym (append-nil (nodes t))) ∙ trees_of t [] []

pub one_tree : OneTree
one_tree t u e =
    let p = trees-whole t in
    let q = trees-whole u in
    cc

-- one node more
pub trees-more : (ts : List Tree) (ns : List Node) (n : Node) → trees ts (ns ++ (n ∷ [])) ≡ grown n (trees ts ns)
trees-more ts [] n = refl
trees-more ts (m ∷ ns) n = trees-more (grown m ts) ns n
