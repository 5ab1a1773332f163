-- What is written of a tree, by its last node.
use Rattle.std.proofs.Common.{◌≡◌, ℕ, Bool, false, List, [], ◌∷◌, ◌++◌, length, take, codes, Decides, sym, refl, ap, ◌∙◌, arith}
use Rattle.std.specs.Fmt.{HasWritten}
use Rattle.std.specs.declared.fmt.Formatter.{Formatter}
use Rattle.std.proofs.Output.{has_written_of_eq, has_written_append}
use Rattle.std.proofs.lemmas.List.{append_cancel_left, take-append-le, take_all}
use Rattle.std.proofs.lemmas.Bool.Decides.{same_from_decides}
use Rattle.rules.specs.declared.node.Leaf.{Leaf}
use Rattle.rules.specs.declared.node.Node.{Node}
use Rattle.rules.specs.declared.node.Node.TheVariants.{Is, Not, And, Or}
use Rattle.rules.specs.Trees.{Tree, is, isnt, both, either, nodes}
use Rattle.rules.specs.Parts.{top, Begins, OfTree}
use Rattle.rules.specs.Text.{is_and, is_or, compound, in_parens, leaf_text, tree_text}
use Rattle.rules.proofs.Tops.{below, ended}

is_leaf : (t : Tree) (l : Leaf) → top t ≡ Is l → t ≡ is l
is_leaf (is k) l e = cc
is_leaf (isnt k) l e = cc
is_leaf (both a b) l e = cc
is_leaf (either a b) l e = cc

is_not : (t : Tree) (l : Leaf) → top t ≡ Not l → t ≡ isnt l
is_not (is k) l e = cc
is_not (isnt k) l e = cc
is_not (both a b) l e = cc
is_not (either a b) l e = cc

is-both : (t : Tree) → top t ≡ And → (a : Tree) × (b : Tree) × (t ≡ both a b)
is-both (is k) e = absurd (cc)
is-both (isnt k) e = absurd (cc)
is-both (both a b) e = (a, b, refl)
is-both (either a b) e = absurd (cc)

is-either : (t : Tree) → top t ≡ Or → (a : Tree) × (b : Tree) × (t ≡ either a b)
is-either (is k) e = absurd (cc)
is-either (isnt k) e = absurd (cc)
is-either (both a b) e = absurd (cc)
is-either (either a b) e = (a, b, refl)

tells_or : (t : Tree) → Decides (is_or t) (top t ≡ Or)
tells_or (is l) = (λ e. cc, λ e. cc)
tells_or (isnt l) = (λ e. cc, λ e. cc)
tells_or (both a b) = (λ e. cc, λ e. cc)
tells_or (either a b) = (λ e. refl, λ e. refl)

tells_and : (t : Tree) → Decides (is_and t) (top t ≡ And)
tells_and (is l) = (λ e. cc, λ e. cc)
tells_and (isnt l) = (λ e. cc, λ e. cc)
tells_and (both a b) = (λ e. refl, λ e. refl)
tells_and (either a b) = (λ e. cc, λ e. cc)

-- what stands before the last of two trees, and that tree
parted : (a b : Tree) (ns left right : List Node) (at : ℕ) → nodes a ++ nodes b ≡ ns → Begins ns at → left ≡ take at ns → ns ≡ left ++ right → (nodes a ≡ left) × (nodes b ≡ right)
parted a b ns left right at e begins front all =
    let long : at ≡ length (nodes a) = begins (nodes a) b e in
    let first : nodes a ≡ left =
    sym (front ∙ ap (take at) (sym e) ∙ take-append-le at (nodes a) (nodes b) (omega arith) ∙ take_all at (nodes a) (omega arith)) in
    (first, append_cancel_left (nodes a) (nodes b) right (e ∙ all ∙ ap (λ (xs : List Node). xs ++ right) (sym first)))

-- the two trees of a tree, and its text with no parentheses around it
abbrev Halves : Tree → List Node → List Node → Bool → List ℕ → Bool → Bool → Type 0
Halves u left right parens sign l r =
    (a : Tree) × (b : Tree) × (nodes a ≡ left) × (nodes b ≡ right)
    × (in_parens l (tree_text a) ++ (sign ++ in_parens r (tree_text b)) ≡ in_parens parens (tree_text u))

-- a tree u, its nodes, the last of them and those before it, where no parentheses are wanted
module _ (u : Tree) (all parts : List Node) (n : Node) (parens : Bool) (e : nodes u ≡ all) (last : all ≡ parts ++ (n ∷ [])) (none : parens ≡ false) where
  bare : in_parens parens (tree_text u) ≡ tree_text u
  bare = ap (λ (b : Bool). in_parens b (tree_text u)) none

  pub leaf_shown : (l : Leaf) → n ≡ Is l → leaf_text l ≡ in_parens parens (tree_text u)
  leaf_shown l h = sym (bare ∙ ap tree_text (is_leaf u l ((ended u all parts n e last).1 ∙ h)))

  pub not_shown : (l : Leaf) → n ≡ Not l → codes "NOT " ++ leaf_text l ≡ in_parens parens (tree_text u)
  not_shown l h = sym (bare ∙ ap tree_text (is_not u l ((ended u all parts n e last).1 ∙ h)))

  -- the nodes of the two parts, and whether each is in parentheses
  module _ (left right : List Node) (at : ℕ) (begins : Begins parts at) (front : left ≡ take at parts) (cut : parts ≡ left ++ right) (l r : Bool) (one : OfTree right (λ t. r ≡ compound t)) where
    pub both_shown : n ≡ And → OfTree left (λ t. Decides l (top t ≡ Or)) → Halves u left right parens (codes " AND ") l r
    both_shown h other =
        let ends = ended u all parts n e last in
        let (a, b, two) = is-both u (ends.1 ∙ h) in
        let halves = parted a b parts left right at (ap below (sym two) ∙ ends.0) begins front cut in
        let first : l ≡ is_or a = same_from_decides l (is_or a) (other a halves.0) (tells_or a) in
        let second : r ≡ compound b = one b halves.1 in
        (a, b, halves.0, halves.1, (λ i. in_parens (first i) (tree_text a) ++ (codes " AND " ++ in_parens (second i) (tree_text b))) ∙ sym (bare ∙ ap tree_text two))

    pub either_shown : n ≡ Or → OfTree left (λ t. Decides l (top t ≡ And)) → Halves u left right parens (codes " OR ") l r
    either_shown h other =
        let ends = ended u all parts n e last in
        let (a, b, two) = is-either u (ends.1 ∙ h) in
        let halves = parted a b parts left right at (ap below (sym two) ∙ ends.0) begins front cut in
        let first : l ≡ is_and a = same_from_decides l (is_and a) (other a halves.0) (tells_and a) in
        let second : r ≡ compound b = one b halves.1 in
        (a, b, halves.0, halves.1, (λ i. in_parens (first i) (tree_text a) ++ (codes " OR " ++ in_parens (second i) (tree_text b))) ∙ sym (bare ∙ ap tree_text two))

-- three texts in a row
pub put_three : {W : Type 0} (took : W → List ℕ → W → Type 0) (f g h k : Formatter W) (a b c s : List ℕ) → a ++ (b ++ c) ≡ s → HasWritten took f a g → HasWritten took g b h → HasWritten took h c k → HasWritten took f s k
put_three took f g h k a b c s e x y z = has_written_of_eq took f _ s k e (has_written_append took f a g (b ++ c) k x (has_written_append took g b h c k y z))
