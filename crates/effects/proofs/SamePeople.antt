-- A split leaves everyone's answer.
use Rattle.std.proofs.Common.{◌≡◌, ℕ, Bool, true, false, cond, ◌&&◌, eqb, ◌≢◌, ◌⊎◌, ◌↔◌, sym, ◌∙◌, subst, inl, inr, ⊎_elim, arith}
use mathlib.Core.Logic.Iff
use mathlib.Core.Logic.{⊎_map}
use Rattle.std.proofs.lemmas.Bool.Decides.{nat_tests, eqb_tells}
use Rattle.std.proofs.lemmas.Bool.{or_cases}
use Rattle.model.specs.Facts.{Facts}
use Rattle.model.specs.Sides.{actor_stands, stands, has, under}
use Rattle.model.specs.Chains.{Chain, one, more, Circle}
use Rattle.model.specs.declared.side.Side.{Side}
use Rattle.rules.specs.declared.node.Leaf.TheVariants.{Actor, Group}
use Rattle.rules.specs.Trees.{Tree, is, isnt, both, either}
use Rattle.rules.specs.Edits.{same_side}
use Rattle.answers.specs.Qualify.{Reaches, InLeaf, EndsStand, Qualifies}
use Rattle.answers.specs.Validity.{NamesStand}
use Rattle.drafts.specs.Sided.{Sided, sided}
use Rattle.drafts.specs.Splitting.{Parts, parted_side, parted}
use Rattle.effects.specs.Fits.{SplitFits}
use Rattle.effects.specs.Pairs.{whole_of}
use Rattle.effects.specs.Rules.{parted_rule}
use Rattle.effects.specs.Answers.{SplitKeepsAnswers}
use Rattle.effects.proofs.OneSide.{same_refl, each_side, actors_left, Among}
use Rattle.effects.proofs.SplitPairs.{side_has-back}
use Rattle.effects.proofs.Sound.{no_loop, chain_back}

-- x became x' by the split
abbrev Became : Parts → ℕ → ℕ → Type 0
Became D x x' = (whole_of D x' ≡ x) × (x' ≢ D.whole)

-- Q of one of the parts of r, where r is the whole, or else of r
abbrev OfPart : Parts → (ℕ → Type 0) → ℕ → Bool → Type 0
OfPart D Q r true = Q D.part1 ⊎ Q D.part2
OfPart D Q r false = Q r

of_part_map : (D : Parts) (Q R : ℕ → Type 0) → ((x : ℕ) → Q x → R x) → (r : ℕ) (b : Bool) → OfPart D Q r b → OfPart D R r b
of_part_map D Q R m r true (inl i) = inl (m D.part1 i)
of_part_map D Q R m r true (inr i) = inr (m D.part2 i)
of_part_map D Q R m r false i = m r i

of_part_all : (D : Parts) (Q : ℕ → Type 0) (R : Type 0) → ((x : ℕ) → Q x → R) → (r : ℕ) (b : Bool) → OfPart D Q r b → R
of_part_all D Q R m r true (inl i) = m D.part1 i
of_part_all D Q R m r true (inr i) = m D.part2 i
of_part_all D Q R m r false i = m r i

-- the rule's node in place of a leaf, and of a leaf under NOT
is-after : (D : Parts) (G : Facts) (j : Side) (r : ℕ) (plus : Bool) (a : ℕ) (b : Bool)
    → Qualifies G (cond b (either (is (Group j D.part1 plus)) (is (Group j D.part2 plus))) (is (Group j r plus))) a
    ↔ OfPart D (λ x. InLeaf G (Group j x plus) a) r b
is-after D G j r plus a true = (λ i. i, λ i. i)
is-after D G j r plus a false = (λ i. i, λ i. i)

isnt-after : (D : Parts) (G : Facts) (j : Side) (r : ℕ) (plus : Bool) (a : ℕ) (b : Bool)
    → Qualifies G (cond b (both (isnt (Group j D.part1 plus)) (isnt (Group j D.part2 plus))) (isnt (Group j r plus))) a
    ↔ ((actor_stands G a ≡ true) × (OfPart D (λ x. InLeaf G (Group j x plus) a) r b → ⊥))
isnt-after D G j r plus a true = (λ i. (i.0.0, ⊎_elim i.0.1 i.1.1), λ i. ((i.0, λ u. i.1 (inl u)), (i.0, λ u. i.1 (inr u))))
isnt-after D G j r plus a false = (λ i. i, λ i. i)

module _ (F : Facts) (k : Side) (D : Parts) (w : EndsStand F) (c : Circle F k → ⊥) (h : SplitFits F k D) where
  became1 : Became D D.whole D.part1
  became1 = (grind (arith, nat_tests), λ q. grind (arith, nat_tests, h.whole, h.fresh1))

  became2 : Became D D.whole D.part2
  became2 = (grind (arith, nat_tests), λ q. grind (arith, nat_tests, h.whole, h.fresh2))

  became_same : (x : ℕ) → stands F k x ≡ true → x ≢ D.whole → Became D x x
  became_same x s d = (grind (arith, nat_tests, h.fresh1, h.fresh2), d)

  -- whoever had y has what y became
  part_has : (a y : ℕ) → has F k a y ≡ true → (y' : ℕ) × Became D y y' × ((parted_side D (sided F k)).has a y' ≡ true)
  unfolding parted_side
  part_has a y q =
      elim (eqb_tells y D.whole) [
        | inl t ↦
            let q' : has F k a D.whole ≡ true = subst (λ (z : ℕ). has F k a z ≡ true) t.1 q in
            elim (or_cases (D.actors1 a) (D.actors2 a) (h.actors a ∙ q')) [
              | inl s ↦ (D.part1, subst (λ (z : ℕ). Became D z D.part1) (sym t.1) became1, grind (arith, nat_tests))
              | inr s ↦ (D.part2, subst (λ (z : ℕ). Became D z D.part2) (sym t.1) became2, grind (arith, nat_tests))
            ]
        | inr t ↦ (y, became_same y (w.group k a y q) t.1, grind (arith, nat_tests))
      ]

  -- what x became is directly below what y became
  part_under : (x y x' : ℕ) → under F k x y ≡ true → Became D x x' → (y' : ℕ) × Became D y y' × ((parted_side D (sided F k)).under x' y' ≡ true)
  unfolding parted_side
  part_under x y x' q p =
      elim (eqb_tells y D.whole) [
        | inl t ↦
            let q' : under F k x D.whole ≡ true = subst (λ (z : ℕ). under F k x z ≡ true) t.1 q in
            let d : x ≢ D.whole = λ u. no_loop F k D w c h (subst (λ (z : ℕ). under F k z D.whole ≡ true) u q') in
            let same : x' ≡ x = grind (arith, nat_tests) in
            elim (or_cases (D.below1 x) (D.below2 x) (h.below x ∙ q')) [
              | inl s ↦ (D.part1, subst (λ (z : ℕ). Became D z D.part1) (sym t.1) became1, grind (arith, nat_tests))
              | inr s ↦ (D.part2, subst (λ (z : ℕ). Became D z D.part2) (sym t.1) became2, grind (arith, nat_tests))
            ]
        | inr t ↦ (y, became_same y (w.upper k x y q) t.1, grind (arith, nat_tests))
      ]

  part_chain : {x y : ℕ} → Chain (under F k) x y → (x' : ℕ) → Became D x x' → (y' : ℕ) × Became D y y' × Chain (parted_side D (sided F k)).under x' y'
  part_chain (one {x} {y} p) x' i = let r = part_under x y x' p i in (r.0, r.1, one r.2)
  part_chain (more {x} {m} p q) x' i =
      let r = part_under x m x' p i in
      let s = part_chain q r.0 r.1 in
      (s.0, s.1, more r.2 s.2)

  among_part : (r : ℕ) (plus : Bool) (a : ℕ) → Reaches F k r plus a → (r' : ℕ) × Became D r r' × Among (parted_side D (sided F k)) r' plus a
  among_part r plus a (inl q) = let s = part_has a r q in (s.0, s.1, inl s.2)
  among_part r plus a (inr m) =
      let s = part_has a m.1.0 m.1.1 in
      let b = part_chain m.1.2 s.0 s.1 in
      (b.0, b.1, inr (m.0, (s.0, s.2, b.2)))

  among-back : (r r' : ℕ) (plus : Bool) (a : ℕ) → Became D r r' → Among (parted_side D (sided F k)) r' plus a → Reaches F k r plus a
  among-back r r' plus a p (inl q) = inl (subst (λ (z : ℕ). has F k a z ≡ true) p.0 (side_has-back F k D w h a r' q))
  among-back r r' plus a p (inr m) =
      inr (m.0, (whole_of D m.1.0, side_has-back F k D w h a m.1.0 m.1.1, subst (λ (z : ℕ). Chain (under F k) (whole_of D m.1.0) z) p.0 (chain_back F k D w c h m.1.2)))

  -- what the whole became is a part, and what anything else became is itself
  of_became : (Q : ℕ → Type 0) (r r' : ℕ) → Became D r r' → Q r' → OfPart D Q r (eqb r D.whole)
  of_became Q r r' p i =
      elim (eqb_tells r' D.part1) [
        | inl t ↦ let q : eqb r D.whole ≡ true = grind (arith, nat_tests) in rw q (inl (subst Q t.1 i))
        | inr t ↦
            elim (eqb_tells r' D.part2) [
              | inl u ↦ let q : eqb r D.whole ≡ true = grind (arith, nat_tests) in rw q (inr (subst Q u.1 i))
              | inr u ↦
                  let q : eqb r D.whole ≡ false = grind (arith, nat_tests) in
                  let s : r' ≡ r = grind (arith, nat_tests) in
                  rw q (subst Q s i)
            ]
      ]

  own_out : (r : ℕ) (plus : Bool) (a : ℕ) → stands F k r ≡ true → OfPart D (λ x. Among (parted_side D (sided F k)) x plus a) r (eqb r D.whole) → Reaches F k r plus a
  own_out r plus a s i =
      elim (eqb_tells r D.whole) [
        | inl t ↦
            subst (λ (z : ℕ). Reaches F k z plus a) (sym t.1)
            (elim (rw t.0 at i) [
              | inl u ↦ among-back D.whole D.part1 plus a became1 u
              | inr u ↦ among-back D.whole D.part2 plus a became2 u
            ])
        | inr t ↦ among-back r r plus a (became_same r s t.1) (rw t.0 at i)
      ]

  own_in : (r : ℕ) (plus : Bool) (a : ℕ) → Reaches F k r plus a → OfPart D (λ x. Among (parted_side D (sided F k)) x plus a) r (eqb r D.whole)
  own_in r plus a i = let p = among_part r plus a i in of_became (λ x. Among (parted_side D (sided F k)) x plus a) r p.0 p.1 p.2

  reach_after : (j : Side) (r : ℕ) (plus : Bool) (a : ℕ) → stands F j r ≡ true
      → Reaches F j r plus a ↔ OfPart D (λ x. Reaches (parted k D F) j x plus a) r (same_side j k && eqb r D.whole)
  reach_after j r plus a s =
      each_side F k (parted_side D (sided F k))
      (λ i (T : Sided). stands F i r ≡ true → Reaches F i r plus a ↔ OfPart D (λ x. Among T x plus a) r (same_side i k && eqb r D.whole))
      (λ q. rw (same_refl k) (own_in r plus a, own_out r plus a q))
      (λ i d q. rw d (λ u. u, λ u. u))
      j s

  module _ (a : ℕ) where
    still_stands : actor_stands (parted k D F) a ≡ actor_stands F a
    still_stands = actors_left F k (parted_side D (sided F k)) a

    actor-after : (b : ℕ) → InLeaf (parted k D F) (Actor b) a ↔ InLeaf F (Actor b) a
    actor-after b = (λ i. (sym still_stands ∙ i.0, i.1), λ i. (still_stands ∙ i.0, i.1))

    -- a leaf's set is that of the parts' leaves together, where it names the whole
    group-after : (j : Side) (r : ℕ) (plus : Bool) → stands F j r ≡ true
        → OfPart D (λ x. InLeaf (parted k D F) (Group j x plus) a) r (same_side j k && eqb r D.whole) ↔ InLeaf F (Group j r plus) a
    group-after j r plus s =
        let p = reach_after j r plus a s in
        let b : Bool = same_side j k && eqb r D.whole in
        let Q : ℕ → Type 0 = λ x. Reaches (parted k D F) j x plus a in
        let R : ℕ → Type 0 = λ x. InLeaf (parted k D F) (Group j x plus) a in (
          λ i. (sym still_stands ∙ of_part_all D R (actor_stands (parted k D F) a ≡ true) (λ x u. u.0) r b i, p.1 (of_part_map D R Q (λ x u. u.1) r b i)),
          λ i. of_part_map D Q R (λ x u. (still_stands ∙ i.0, u)) r b (p.0 i.1),
        )

    -- outside a set, and outside what it became
    outside : {P Q : Type 0} → Q ↔ P → ((actor_stands (parted k D F) a ≡ true) × (Q → ⊥)) ↔ ((actor_stands F a ≡ true) × (P → ⊥))
    outside p = (λ i. (sym still_stands ∙ i.0, λ u. i.1 (p.1 u)), λ i. (still_stands ∙ i.0, λ u. i.1 (p.0 u)))

    rule-after : (t : Tree) → NamesStand F t → Qualifies (parted k D F) (parted_rule k D t) a ↔ Qualifies F t a
    rule-after (is (Actor b)) s = actor-after b
    rule-after (is (Group j r plus)) s = Iff.trans (is-after D (parted k D F) j r plus a (same_side j k && eqb r D.whole)) (group-after j r plus s)
    rule-after (isnt (Actor b)) s = outside (actor-after b)
    rule-after (isnt (Group j r plus)) s = Iff.trans (isnt-after D (parted k D F) j r plus a (same_side j k && eqb r D.whole)) (outside (group-after j r plus s))
    rule-after (both t u) s = Iff.and (rule-after t s.0) (rule-after u s.1)
    rule-after (either t u) s =
        let p = rule-after t s.0 in
        let q = rule-after u s.1 in
        (⊎_map p.0 q.0, ⊎_map p.1 q.1)

pub split_keeps_answers : SplitKeepsAnswers
split_keeps_answers F k D w c h t s a = rule-after F k D w c h a t s
