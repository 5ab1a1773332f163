-- A sound model stays sound with one fact put in or taken out, where the fact allows it.
use Rattle.std.proofs.Common.{◌≡◌, ℕ, ◌<◌, ◌≤◌, Bool, true, false, cond, ◌&&◌, eqb, ltb, leb, ◌⊎◌, sym, refl, ◌∙◌, subst, inl, inr, arith}
use Rattle.std.proofs.lemmas.Bool.{true≢false, and_parts, and_left, and_right, ltb-true, leb-true, eqb-true, cases_Bool}
use Rattle.std.proofs.lemmas.Bool.Decides.{eqb_tells}
use Rattle.model.specs.Facts.{Facts, placed, same}
use Rattle.model.specs.Sides.{actor_stands, under_sort, stands, has, under}
use Rattle.model.specs.Chains.{Chain, one, more, Circle}
use Rattle.model.specs.declared.side.Side.{Side}
use Rattle.model.specs.declared.side.Side.TheVariants.{Role, Unit}
use Rattle.model.proofs.Sets.{placed_off}
use Rattle.answers.specs.Qualify.{EndsStand}
use Rattle.drafts.specs.Grounds.{InPair, LinkCircle, pair_sort, hierarchy, lower_kind, upper_kind, side_of_sort}
use Rattle.effects.specs.Kept.{NoCircle}
use Rattle.effects.specs.Sound.{Sound}

-- ── a set with one fact placed ──

-- what is held stays held where a fact is put in
held_with-more : (F : Facts) (s x y a b c : ℕ) → F a b c ≡ true → placed F s x y true a b c ≡ true
unfolding placed
held_with-more F s x y a b c q = put-more (same s x y a b c) (F a b c) q
  where
    put-more : (b v : Bool) → v ≡ true → cond b true v ≡ true
    put-more true v h = refl
    put-more false v h = h

-- what is held where a fact is taken out was held
held_before : (F : Facts) (s x y a b c : ℕ) → placed F s x y false a b c ≡ true → F a b c ≡ true
unfolding placed
held_before F s x y a b c q = take_less (same s x y a b c) (F a b c) q
  where
    take_less : (b v : Bool) → cond b false v ≡ true → v ≡ true
    take_less true v h = absurd (true≢false (sym h))
    take_less false v h = h

-- another sort or another lower number stays as it was
placed_away : (F : Facts) (s x y : ℕ) (v : Bool) (a b c : ℕ) → (a ≡ s → b ≡ x → ⊥) → placed F s x y v a b c ≡ F a b c
placed_away F s x y v a b c d =
    placed_off F s x y v a b c
    (elim (eqb_tells a s) [
      | inl t ↦
          elim (eqb_tells b x) [
            | inl u ↦ absurd (d t.1 u.1)
            | inr u ↦ and_right (eqb a s) (eqb b x && eqb c y) (and_left (eqb b x) (eqb c y) u.0)
          ]
      | inr t ↦ and_left (eqb a s) (eqb b x && eqb c y) t.0
    ])

-- what is held where a fact is put in is that fact, or was held
new-or-old : (F : Facts) (s x y a b c : ℕ) → placed F s x y true a b c ≡ true → ((a ≡ s) × (b ≡ x) × (c ≡ y)) ⊎ (F a b c ≡ true)
new-or-old F s x y a b c q =
    elim (cases_Bool (same s x y a b c)) [
      | inl t ↦
          let p = and_parts (eqb a s) (eqb b x && eqb c y) t in
          let r = and_parts (eqb b x) (eqb c y) p.1 in
          inl (eqb-true a s p.0, eqb-true b x r.0, eqb-true c y r.1)
      | inr t ↦ inr (sym (placed_off F s x y true a b c t) ∙ q)
    ]

-- ── the sorts of pairs ──

pair_high : (s : ℕ) → pair_sort s ≡ true → 3 ≤ s
pair_high s h = leb-true 3 s (and_parts (leb 3 s) (ltb s 7) h).0

pair_sorts : (s : ℕ) → pair_sort s ≡ true → ((s ≡ 3) ⊎ (s ≡ 4)) ⊎ ((s ≡ 5) ⊎ (s ≡ 6))
pair_sorts s h =
    let p = and_parts (leb 3 s) (ltb s 7) h in
    let low = leb-true 3 s p.0 in
    let high = ltb-true s 7 p.1 in
    elim (eqb_tells s 3) [
      | inl t ↦ inl (inl t.1)
      | inr t ↦
          elim (eqb_tells s 4) [
            | inl u ↦ inl (inr u.1)
            | inr u ↦
                elim (eqb_tells s 5) [
                  | inl v ↦ inr (inl v.1)
                  | inr v ↦
                      let d3 = t.1 in
                      let d4 = u.1 in
                      let d5 = v.1 in
                      inr (inr (omega arith))
                ]
          ]
    ]

lower_low : (s : ℕ) → lower_kind s < 3
lower_low s = low (ltb s 5) (eqb s 5)
  where
    low : (b c : Bool) → cond b 0 (cond c 1 2) < 3
    low true c = omega arith
    low false true = omega arith
    low false false = omega arith

upper_low : (s : ℕ) → upper_kind s < 3
upper_low s = low _
  where
    low : (b : Bool) → cond b 1 2 < 3
    low true = omega arith
    low false = omega arith

-- ── the ends of pairs, by the sort ──

-- both ends stand
abbrev pub EndsAt : Facts → ℕ → ℕ → ℕ → Type 0
EndsAt F s x y = (F (lower_kind s) x 0 ≡ true) × (F (upper_kind s) y 0 ≡ true)

ends_at : (F : Facts) → EndsStand F → (s x y : ℕ) → pair_sort s ≡ true → F s x y ≡ true → EndsAt F s x y
ends_at F w s x y h =
    let Q : ℕ → Type 0 = λ z. F z x y ≡ true → EndsAt F z x y in
    elim (pair_sorts s h) [
      | inl t ↦
          elim t [
            | inl e ↦ subst Q (sym e) (λ q. (w.actor Role x y q, w.group Role x y q))
            | inr e ↦ subst Q (sym e) (λ q. (w.actor Unit x y q, w.group Unit x y q))
          ]
      | inr t ↦
          elim t [
            | inl e ↦ subst Q (sym e) (λ q. (w.lower Role x y q, w.upper Role x y q))
            | inr e ↦ subst Q (sym e) (λ q. (w.lower Unit x y q, w.upper Unit x y q))
          ]
    ]

module _ (G : Facts) (h : (s x y : ℕ) → pair_sort s ≡ true → G s x y ≡ true → EndsAt G s x y) where
  has-ends : (k : Side) (a y : ℕ) → has G k a y ≡ true → (actor_stands G a ≡ true) × (stands G k y ≡ true)
  has-ends Role a y q = h 3 a y refl q
  has-ends Unit a y q = h 4 a y refl q

  under-ends : (k : Side) (x y : ℕ) → under G k x y ≡ true → (stands G k x ≡ true) × (stands G k y ≡ true)
  under-ends Role x y q = h 5 x y refl q
  under-ends Unit x y q = h 6 x y refl q

  ends_from : EndsStand G
  ends_from = record {
    actor = λ k a y q. (has-ends k a y q).0;
    group = λ k a y q. (has-ends k a y q).1;
    lower = λ k x y q. (under-ends k x y q).0;
    upper = λ k x y q. (under-ends k x y q).1;
  }

-- ── circles ──

chain_in : {P Q : ℕ → ℕ → Bool} → ((x y : ℕ) → P x y ≡ true → Q x y ≡ true) → {x y : ℕ} → Chain P x y → Chain Q x y
chain_in h (one {x} {y} p) = one (h x y p)
chain_in h (more {x} {m} p q) = more (h x m p) (chain_in h q)

circle_in : (F G : Facts) (k : Side) → ((x y : ℕ) → under G k x y ≡ true → under F k x y ≡ true) → Circle G k → Circle F k
circle_in F G k h c = (c.0, chain_in h c.1)

under_pair : (k : Side) → pair_sort (under_sort k) ≡ true
under_pair Role = refl
under_pair Unit = refl

-- fewer pairs bring no circle
no_more-circles : (F G : Facts) → ((s x y : ℕ) → pair_sort s ≡ true → G s x y ≡ true → F s x y ≡ true) → NoCircle F → NoCircle G
no_more-circles F G h n k c = n k (circle_in F G k (λ x y q. h (under_sort k) x y (under_pair k) q) c)

-- a circle, by the sort of its hierarchy
circle_by_sort : (G : Facts) (k : Side) → Circle G k → (hierarchy (under_sort k) ≡ true) × Circle G (side_of_sort (under_sort k))
circle_by_sort G Role c = (refl, c)
circle_by_sort G Unit c = (refl, c)

-- ── one more or one fewer fact ──

module _ (F : Facts) (w : Sound F) where
  -- a kind is no sort of pairs
  pairs_left : (kind n : ℕ) (v : Bool) → kind < 3 → (s x y : ℕ) → pair_sort s ≡ true → placed F kind n 0 v s x y ≡ true → F s x y ≡ true
  pairs_left kind n v l s x y p q = let g = pair_high s p in sym (placed_away F kind n 0 v s x y (λ e _. omega arith)) ∙ q

  pub sound_added : (kind n : ℕ) → kind < 3 → Sound (placed F kind n 0 true)
  sound_added kind n l = record {
    ends =
        ends_from (placed F kind n 0 true)
        (λ s x y p q.
        let e = ends_at F w.ends s x y p (pairs_left kind n true l s x y p q) in
        (held_with-more F kind n 0 (lower_kind s) x 0 e.0, held_with-more F kind n 0 (upper_kind s) y 0 e.1));
    circles = no_more-circles F (placed F kind n 0 true) (pairs_left kind n true l) w.circles;
  }

  pub sound_removed : (kind n : ℕ) → kind < 3 → (InPair F kind n → ⊥) → Sound (placed F kind n 0 false)
  sound_removed kind n l out = record {
    ends =
        ends_from (placed F kind n 0 false)
        (λ s x y p q.
        let held = pairs_left kind n false l s x y p q in
        let e = ends_at F w.ends s x y p held in (
          placed_away F kind n 0 false (lower_kind s) x 0 (λ c d. out (s, x, y, p, held, inl (c, d))) ∙ e.0,
          placed_away F kind n 0 false (upper_kind s) y 0 (λ c d. out (s, x, y, p, held, inr (c, d))) ∙ e.1,
        ));
    circles = no_more-circles F (placed F kind n 0 false) (pairs_left kind n false l) w.circles;
  }

  pub sound_linked : (s x y : ℕ) → EndsAt F s x y → (LinkCircle F s x y → ⊥) → Sound (placed F s x y true)
  sound_linked s x y at out = record {
    ends =
        ends_from (placed F s x y true)
        (λ a b c p q.
        let e : EndsAt F a b c =
        elim (new-or-old F s x y a b c q) [
          | inl t ↦
              let ea = t.0 in
              let eb = t.1 in
              let ec = t.2 in
              subst (λ (z : ℕ). EndsAt F z b c) (sym ea) (subst (λ (z : ℕ). EndsAt F s z c) (sym eb) (subst (λ (z : ℕ). EndsAt F s x z) (sym ec) at))
          | inr t ↦ ends_at F w.ends a b c p t
        ] in
        (held_with-more F s x y (lower_kind a) b 0 e.0, held_with-more F s x y (upper_kind a) c 0 e.1));
    circles = λ k c.
        elim (eqb_tells (under_sort k) s) [
          | inl t ↦ out (subst (λ (z : ℕ). (hierarchy z ≡ true) × Circle (placed F s x y true) (side_of_sort z)) t.1 (circle_by_sort (placed F s x y true) k c))
          | inr t ↦ w.circles k (circle_in F (placed F s x y true) k (λ a b q. sym (placed_away F s x y true (under_sort k) a b (λ e _. t.1 e)) ∙ q) c)
        ];
  }

  -- what stands stays where a pair is put in or taken out
  kinds_left : (s x y : ℕ) (v : Bool) → pair_sort s ≡ true → (kind n : ℕ) → kind < 3 → placed F s x y v kind n 0 ≡ F kind n 0
  kinds_left s x y v p kind n l = let g = pair_high s p in placed_away F s x y v kind n 0 (λ e _. omega arith)

  -- ends that stand stay where a pair is put in or taken out
  pub ends_left : (s x y : ℕ) (v : Bool) → pair_sort s ≡ true → (a b c : ℕ) → EndsAt F a b c → EndsAt (placed F s x y v) a b c
  ends_left s x y v p a b c e = (
    kinds_left s x y v p (lower_kind a) b (lower_low a) ∙ e.0,
    kinds_left s x y v p (upper_kind a) c (upper_low a) ∙ e.1,
  )

  pub sound_unlinked : (s x y : ℕ) → pair_sort s ≡ true → Sound (placed F s x y false)
  sound_unlinked s x y p = record {
    ends =
        ends_from (placed F s x y false)
        (λ a b c g q. ends_left s x y false p a b c (ends_at F w.ends a b c g (held_before F s x y a b c q)));
    circles = no_more-circles F (placed F s x y false) (λ a b c _ q. held_before F s x y a b c q) w.circles;
  }
