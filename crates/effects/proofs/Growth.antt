-- A join carries whoever is in a leaf's set into the set of the joined leaf.
use Rattle.std.proofs.Common.{◌≡◌, ℕ, Bool, true, cond, ◌⊎◌, sym, ◌∙◌, subst, inl, inr, arith}
use Rattle.std.proofs.lemmas.Bool.Decides.{nat_tests, eqb_tells}
use Rattle.model.specs.Facts.{Facts}
use Rattle.model.specs.Sides.{actor_stands}
use Rattle.model.specs.Chains.{Chain, one, more}
use Rattle.model.specs.declared.side.Side.{Side}
use Rattle.rules.specs.declared.node.Leaf.{Leaf}
use Rattle.rules.specs.declared.node.Leaf.TheVariants.{Actor, Group}
use Rattle.rules.specs.Trees.{Tree, is, isnt, both, either}
use Rattle.rules.specs.Edits.{same_side, renamed, joined_leaf, joined_rule}
use Rattle.answers.specs.Qualify.{Reaches, InLeaf, Qualifies}
use Rattle.drafts.specs.Sided.{Sided, sided}
use Rattle.drafts.specs.Joining.{joined_side, joined}
use Rattle.effects.specs.Rules.{Plain, Negated}
use Rattle.effects.specs.Answers.{JoinGrows}
use Rattle.effects.proofs.OneSide.{same_refl, each_side, actors_left, Among}

module _ (e f n : ℕ) (S : Sided) where
  join-has : (a y : ℕ) → S.has a y ≡ true → (joined_side e f n S).has a (renamed e f n y) ≡ true
  unfolding joined_side
  join-has a y q = grind (arith, nat_tests)

  -- a pair falls on one number, or is still a pair
  join-under : (x y : ℕ) → S.under x y ≡ true
      → (renamed e f n x ≡ renamed e f n y) ⊎ ((joined_side e f n S).under (renamed e f n x) (renamed e f n y) ≡ true)
  unfolding joined_side
  join-under x y q = elim (eqb_tells (renamed e f n x) (renamed e f n y)) [ inl t ↦ inl t.1 | inr t ↦ inr (grind (arith, nat_tests)) ]

  join_chain : {x y : ℕ} → Chain S.under x y
      → (renamed e f n x ≡ renamed e f n y) ⊎ Chain (joined_side e f n S).under (renamed e f n x) (renamed e f n y)
  join_chain (one {x} {y} p) = elim (join-under x y p) [ inl t ↦ inl t | inr t ↦ inr (one t) ]
  join_chain (more {x} {m} {y} p q) =
      elim (join-under x m p) [
        | inl t ↦
            elim (join_chain q) [
              | inl u ↦ inl (t ∙ u)
              | inr u ↦ inr (subst (λ (v : ℕ). Chain (joined_side e f n S).under v (renamed e f n y)) (sym t) u)
            ]
        | inr t ↦
            elim (join_chain q) [
              | inl u ↦ inr (one (subst (λ (v : ℕ). (joined_side e f n S).under (renamed e f n x) v ≡ true) u t))
              | inr u ↦ inr (more t u)
            ]
      ]

  join-among : (r : ℕ) (plus : Bool) (a : ℕ) → Among S r plus a → Among (joined_side e f n S) (renamed e f n r) plus a
  join-among r plus a (inl q) = inl (join-has a r q)
  join-among r plus a (inr m) =
      elim (join_chain m.1.2) [
        | inl t ↦ inl (subst (λ (v : ℕ). (joined_side e f n S).has a v ≡ true) t (join-has a m.1.0 m.1.1))
        | inr t ↦ inr (m.0, (renamed e f n m.1.0, join-has a m.1.0 m.1.1, t))
      ]

module _ (F : Facts) (k : Side) (e f n : ℕ) (a : ℕ) where
  still_stands : actor_stands (joined k e f n F) a ≡ actor_stands F a
  still_stands = actors_left F k (joined_side e f n (sided F k)) a

  join-leaf : (l : Leaf) → InLeaf F l a → InLeaf (joined k e f n F) (joined_leaf k e f n l) a
  join-leaf (Actor b) h = (still_stands ∙ h.0, h.1)
  join-leaf (Group j r plus) h = (
    still_stands ∙ h.0,
    each_side F k (joined_side e f n (sided F k))
        (λ i (T : Sided). Reaches F i r plus a → Among T (cond (same_side i k) (renamed e f n r) r) plus a)
        (λ q. rw (same_refl k) (join-among e f n (sided F k) r plus a q))
        (λ i d q. rw d q)
        j h.1,
  )

  join_plain : (t : Tree) → Plain t → Qualifies F t a → Qualifies (joined k e f n F) (joined_rule k e f n t) a
  join_plain (is l) p h = join-leaf l h
  join_plain (isnt l) p h = absurd p
  join_plain (both s t) p h = (join_plain s p.0 h.0, join_plain t p.1 h.1)
  join_plain (either s t) p (inl h) = inl (join_plain s p.0 h)
  join_plain (either s t) p (inr h) = inr (join_plain t p.1 h)

  join_negated : (t : Tree) → Negated t → Qualifies (joined k e f n F) (joined_rule k e f n t) a → Qualifies F t a
  join_negated (is l) p h = absurd p
  join_negated (isnt l) p h = (sym still_stands ∙ h.0, λ i. h.1 (join-leaf l i))
  join_negated (both s t) p h = (join_negated s p.0 h.0, join_negated t p.1 h.1)
  join_negated (either s t) p (inl h) = inl (join_negated s p.0 h)
  join_negated (either s t) p (inr h) = inr (join_negated t p.1 h)

pub join_grows : JoinGrows
join_grows F k e f n t a = (join_plain F k e f n a t, join_negated F k e f n a t)
