-- Joined and split rules name what stands, and stay of their kind.
use Rattle.std.proofs.Common.{◌≡◌, ℕ, Bool, true, false, cond, ◌&&◌, eqb, ◌∙◌, inl, inr, arith}
use Rattle.std.proofs.lemmas.Bool.Decides.{nat_tests, eqb_tells}
use Rattle.model.specs.Facts.{Facts}
use Rattle.model.specs.Sides.{stands}
use Rattle.model.specs.declared.side.Side.{Side}
use Rattle.rules.specs.declared.node.Leaf.{Leaf}
use Rattle.rules.specs.declared.node.Leaf.TheVariants.{Actor, Group}
use Rattle.rules.specs.Trees.{is, isnt, both, either}
use Rattle.rules.specs.Edits.{same_side, renamed, joined_leaf, names, numbered}
use Rattle.answers.specs.Validity.{name_stands, NamesStand}
use Rattle.drafts.specs.Sided.{Sided, sided}
use Rattle.drafts.specs.Joining.{joined_side, joined}
use Rattle.drafts.specs.Splitting.{Parts, parted_side, parted}
use Rattle.effects.specs.Rules.{JoinKeepsNames, SplitKeepsNames, KindKept, JoinKeepsKind, SplitKeepsKind}
use Rattle.effects.proofs.OneSide.{same_refl, each_side, actors_left}

-- ── names after a join ──

join_stands : (e f n : ℕ) (S : Sided) (x : ℕ) → S.stands x ≡ true → (joined_side e f n S).stands (renamed e f n x) ≡ true
unfolding joined_side
join_stands e f n S x s = grind (arith, nat_tests)

join_name : (F : Facts) (k : Side) (e f n : ℕ) (l : Leaf) → name_stands F l ≡ true → name_stands (joined k e f n F) (joined_leaf k e f n l) ≡ true
join_name F k e f n (Actor a) s = actors_left F k (joined_side e f n (sided F k)) a ∙ s
join_name F k e f n (Group j r plus) s =
    each_side F k (joined_side e f n (sided F k))
    (λ i (T : Sided). stands F i r ≡ true → T.stands (cond (same_side i k) (renamed e f n r) r) ≡ true)
    (λ q. rw (same_refl k) (join_stands e f n (sided F k) r q))
    (λ i d q. rw d q)
    j s

pub join_keeps_names : JoinKeepsNames
join_keeps_names F k e f n (is l) s = join_name F k e f n l s
join_keeps_names F k e f n (isnt l) s = join_name F k e f n l s
join_keeps_names F k e f n (both t u) s = (join_keeps_names F k e f n t s.0, join_keeps_names F k e f n u s.1)
join_keeps_names F k e f n (either t u) s = (join_keeps_names F k e f n t s.0, join_keeps_names F k e f n u s.1)

-- ── names after a split ──

-- Q of both parts of r, where r is the whole, or else of r
abbrev OfParts : Parts → (ℕ → Type 0) → ℕ → Bool → Type 0
OfParts D Q r true = Q D.part1 × Q D.part2
OfParts D Q r false = Q r

parts_stand : (D : Parts) (S : Sided) (r : ℕ) → S.stands r ≡ true → OfParts D (λ x. (parted_side D S).stands x ≡ true) r (eqb r D.whole)
unfolding parted_side
parts_stand D S r s =
    elim (eqb_tells r D.whole) [
      | inl t ↦ rw t.0 (grind (arith, nat_tests), grind (arith, nat_tests))
      | inr t ↦ rw t.0 (grind (arith, nat_tests))
    ]

split_name : (F : Facts) (k : Side) (D : Parts) (j : Side) (r : ℕ) → stands F j r ≡ true → OfParts D (λ x. stands (parted k D F) j x ≡ true) r (same_side j k && eqb r D.whole)
split_name F k D j r s =
    each_side F k (parted_side D (sided F k))
    (λ i (T : Sided). stands F i r ≡ true → OfParts D (λ x. T.stands x ≡ true) r (same_side i k && eqb r D.whole))
    (λ q. rw (same_refl k) (parts_stand D (sided F k) r q))
    (λ i d q. rw d q)
    j s

is-names : (D : Parts) (G : Facts) (j : Side) (r : ℕ) (plus b : Bool) → OfParts D (λ x. stands G j x ≡ true) r b
    → NamesStand G (cond b (either (is (Group j D.part1 plus)) (is (Group j D.part2 plus))) (is (Group j r plus)))
is-names D G j r plus true s = s
is-names D G j r plus false s = s

isnt-names : (D : Parts) (G : Facts) (j : Side) (r : ℕ) (plus b : Bool) → OfParts D (λ x. stands G j x ≡ true) r b
    → NamesStand G (cond b (both (isnt (Group j D.part1 plus)) (isnt (Group j D.part2 plus))) (isnt (Group j r plus)))
isnt-names D G j r plus true s = s
isnt-names D G j r plus false s = s

pub split_keeps_names : SplitKeepsNames
split_keeps_names F k D (is (Actor a)) s = actors_left F k (parted_side D (sided F k)) a ∙ s
split_keeps_names F k D (is (Group j r plus)) s = is-names D (parted k D F) j r plus (same_side j k && eqb r D.whole) (split_name F k D j r s)
split_keeps_names F k D (isnt (Actor a)) s = actors_left F k (parted_side D (sided F k)) a ∙ s
split_keeps_names F k D (isnt (Group j r plus)) s = isnt-names D (parted k D F) j r plus (same_side j k && eqb r D.whole) (split_name F k D j r s)
split_keeps_names F k D (both t u) s = (split_keeps_names F k D t s.0, split_keeps_names F k D u s.1)
split_keeps_names F k D (either t u) s = (split_keeps_names F k D t s.0, split_keeps_names F k D u s.1)

-- ── kinds ──

-- what is so of both parts of a rule is so of the rule
both_kept : {A B C D : Type 0} → (A → B) → (C → D) → A × C → B × D
both_kept p q i = (p i.0, q i.1)

pub join_keeps_kind : JoinKeepsKind
join_keeps_kind k e f n (is l) = (λ p. p, λ p. p)
join_keeps_kind k e f n (isnt l) = (λ p. p, λ p. p)
join_keeps_kind k e f n (both t u) =
    let p = join_keeps_kind k e f n t in
    let q = join_keeps_kind k e f n u in
    (both_kept p.0 q.0, both_kept p.1 q.1)
join_keeps_kind k e f n (either t u) =
    let p = join_keeps_kind k e f n t in
    let q = join_keeps_kind k e f n u in
    (both_kept p.0 q.0, both_kept p.1 q.1)

is-kind : (b : Bool) (l m n : Leaf) → KindKept (is n) (cond b (either (is l) (is m)) (is n))
is-kind true l m n = (λ p. (p, p), λ p. (p, p))
is-kind false l m n = (λ p. p, λ p. p)

isnt-kind : (b : Bool) (l m n : Leaf) → KindKept (isnt n) (cond b (both (isnt l) (isnt m)) (isnt n))
isnt-kind true l m n = (λ p. (p, p), λ p. (p, p))
isnt-kind false l m n = (λ p. p, λ p. p)

pub split_keeps_kind : SplitKeepsKind
split_keeps_kind k D (is l) = is-kind (names k D.whole l) (numbered l D.part1) (numbered l D.part2) l
split_keeps_kind k D (isnt l) = isnt-kind (names k D.whole l) (numbered l D.part1) (numbered l D.part2) l
split_keeps_kind k D (both t u) =
    let p = split_keeps_kind k D t in
    let q = split_keeps_kind k D u in
    (both_kept p.0 q.0, both_kept p.1 q.1)
split_keeps_kind k D (either t u) =
    let p = split_keeps_kind k D t in
    let q = split_keeps_kind k D u in
    (both_kept p.0 q.0, both_kept p.1 q.1)
