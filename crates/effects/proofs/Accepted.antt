-- What an accepted join or split has shown, and what it leaves.
use Rattle.std.proofs.Common.{◌≡◌, ℕ, zero, suc, ◌<◌, Bool, true, false, not, ◌&&◌, ◌||◌, eqb, ltb, Some, None, Ok, Decides, Option, Result, sym, refl, ap, ◌∙◌, subst, inl, inr, arith}
use Rattle.std.proofs.lemmas.Bool.{both_ways, not-false, and_parts, or_cases, or_parts, eqb-true, eq-eqb, true≢false}
use Rattle.std.proofs.lemmas.Bool.Decides.{eqb_tells}
use Rattle.model.specs.Facts.{Facts}
use Rattle.model.specs.Sides.{stands_sort, stands, has, under}
use Rattle.model.specs.declared.side.Side.{Side}
use Rattle.drafts.specs.Grounds.{JoinCircle, join_verdict, split_verdict, parting_verdict, first_of, long_refusal, group_kind, group_range, side_of_kind}
use Rattle.drafts.specs.Outcomes.{answered, outcome}
use Rattle.drafts.specs.Shares.{LowestLong, SharesFit, parts_in, too_long}
use Rattle.drafts.specs.Slots.{Slots}
use Rattle.drafts.specs.Splitting.{Parts}
use Rattle.drafts.specs.Steps.{State, Done, Stepped}
use Rattle.drafts.specs.declared.refusal.Refusal.{Refusal}
use Rattle.drafts.specs.declared.step.Split.{Split}
use Rattle.drafts.specs.declared.step.Step.TheVariants.{Split as SplitStep}
use Rattle.drafts.proofs.Verdicts.{passed, refused}
use Rattle.effects.specs.Accepted.{AcceptedJoins, AcceptedSplits, SplitTaken}
use Rattle.effects.specs.Fits.{JoinFits, SplitFits}

-- what is decided not to be so is not so
pub decided_out : (P : Type 0) (b : Bool) → Decides b P → b ≡ false → P → ⊥
decided_out P b d e p = both_ways b e (d.1 p)

-- the answer of an accepted step is that no ground applied
accepted_none : (v : Option Refusal) → ◌≡◌ {A = Result (Unit {0}) Refusal} (Ok tt) (answered v) → v ≡ None
accepted_none None e = refl
accepted_none (Some w) e = let z : ◌≡◌ {A = ℕ} 0 1 = cc in absurd (omega arith)

-- what an accepted step leaves is what it makes
taken_facts : (v : Option Refusal) (S N T : State) → v ≡ None → Done v S N (Ok tt) T → T.facts ≡ N.facts
taken_facts v S N T e d = λ i s x y. (d.facts s x y ∙ ap (λ (u : Option Refusal). outcome u N.facts S.facts s x y) e) i

taken_rules : (v : Option Refusal) (S N T : State) → v ≡ None → Done v S N (Ok tt) T → T.slots ≡ N.slots
taken_rules v S N T e d = λ i slot. (d.rules slot ∙ ap (λ (u : Option Refusal). outcome u N.slots S.slots slot) e) i

kind_sort : (kind : ℕ) → group_kind kind ≡ true → stands_sort (side_of_kind kind) ≡ kind
kind_sort kind h =
    elim (or_cases (eqb kind 1) (eqb kind 2) h) [
      | inl t ↦ let e = eqb-true kind 1 t in ap (λ (z : ℕ). stands_sort (side_of_kind z)) e ∙ sym e
      | inr t ↦ let e = eqb-true kind 2 t in ap (λ (z : ℕ). stands_sort (side_of_kind z)) e ∙ sym e
    ]

pub first_passed : (a b : Option Refusal) → first_of a b ≡ None → a ≡ None
first_passed None b v = refl
first_passed (Some e) b v = v

module _ (F : Facts) where
  kind-stands : (kind n : ℕ) → group_kind kind ≡ true → stands F (side_of_kind kind) n ≡ F kind n 0
  kind-stands kind n h = ap (λ (z : ℕ). F z n 0) (kind_sort kind h)

  pub join_fits : (kind e f n : ℕ) (circle : Bool) → Decides circle (JoinCircle F kind e f n) → join_verdict F kind e f n circle ≡ None → JoinFits F (side_of_kind kind) e f n
  join_fits kind e f n circle d v =
      let p = passed (not (group_range kind e f n)) _ _ v in
      let q = passed (eqb e f) _ _ p.1 in
      let r = passed (not (F kind e 0 && F kind f 0)) _ _ q.1 in
      let t = passed (F kind n 0) _ _ r.1 in
      let u = passed circle _ _ t.1 in
      let g = (and_parts (group_kind kind) (ltb e 64 && (ltb f 64 && ltb n 64)) (not-false (group_range kind e f n) p.0)).0 in
      let both = and_parts (F kind e 0) (F kind f 0) (not-false (F kind e 0 && F kind f 0) r.0) in
      record {
        first = kind-stands kind e g ∙ both.0;
        second = kind-stands kind f g ∙ both.1;
        fresh = kind-stands kind n g ∙ t.0;
        apart = λ i. both_ways (eqb e f) q.0 (eq-eqb e f i);
        circle = decided_out (JoinCircle F kind e f n) circle d u.0;
      }

  pub split_fits : (kind : ℕ) (D : Parts) (shares : Bool) → Decides shares (SharesFit F (side_of_kind kind) D)
      → parting_verdict F kind D.whole D.part1 D.part2 shares ≡ None → SplitFits F (side_of_kind kind) D
  split_fits kind D shares d v =
      let p = passed (not (group_range kind D.whole D.part1 D.part2)) _ _ v in
      let q = passed (eqb D.part1 D.part2) _ _ p.1 in
      let r = passed (not (F kind D.whole 0)) _ _ q.1 in
      let t = passed (F kind D.part1 0 || F kind D.part2 0) _ _ r.1 in
      let u = passed (not shares) _ _ t.1 in
      let g =
      (and_parts (group_kind kind) (ltb D.whole 64 && (ltb D.part1 64 && ltb D.part2 64))
      (not-false (group_range kind D.whole D.part1 D.part2) p.0)).0 in
      let neither = or_parts (F kind D.part1 0) (F kind D.part2 0) t.0 in
      let fit = d.0 (not-false shares u.0) in
      record {
        whole = kind-stands kind D.whole g ∙ not-false (F kind D.whole 0) r.0;
        fresh1 = kind-stands kind D.part1 g ∙ neither.0;
        fresh2 = kind-stands kind D.part2 g ∙ neither.1;
        apart = λ i. both_ways (eqb D.part1 D.part2) q.0 (eq-eqb D.part1 D.part2 i);
        actors = fit.0;
        below = fit.1;
      }

pub accepted_joins : AcceptedJoins
accepted_joins j S T h =
    let side = side_of_kind j.kind in
    let P = JoinCircle S.facts j.kind j.first j.second j.into in
    let by : (circle : Bool) → Decides circle P → join_verdict S.facts j.kind j.first j.second j.into circle ≡ None =
    λ circle d. accepted_none _ (h circle d).answer in
    let out : P → ⊥ =
    λ p. let d : Decides true P = (λ _. p, λ _. refl) in
    (join_fits S.facts j.kind j.first j.second j.into true d (by true d)).circle p in
    let d : Decides false P = (λ e. absurd (true≢false (sym e)), λ p. absurd (out p)) in
    record {
      fits = join_fits S.facts j.kind j.first j.second j.into false d (by false d);
      facts = taken_facts _ S _ T (by false d) (h false d);
      rules = taken_rules _ S _ T (by false d) (h false d);
    }

-- ── splits ──

-- where no slot is the lowest that is too long, none is
none_long : (k : Side) (D : Parts) (B : Slots) → ((slot : ℕ) → LowestLong k D B (Some slot) → ⊥) → LowestLong k D B None
none_long k D B never i = below (suc i) i (omega arith)
  where
    at : (n : ℕ) → ((m : ℕ) → m < n → too_long k D (B m) ≡ false) → (b : Bool) → too_long k D (B n) ≡ b → too_long k D (B n) ≡ false
    at n lower true e = absurd (never n (e, lower))
    at n lower false e = e

    below : (n m : ℕ) → m < n → too_long k D (B m) ≡ false
    below zero m l = absurd (omega arith)
    below (suc n) m l =
        elim (eqb_tells m n) [
          | inl t ↦ subst (λ (z : ℕ). too_long k D (B z) ≡ false) (sym t.1) (at n (below n) (too_long k D (B n)) refl)
          | inr t ↦ let apart = t.1 in below n m (omega arith)
        ]

-- two tests that cannot differ are the same
same_unless_not : (b c : Bool) → ((b ≡ c → ⊥) → ⊥) → b ≡ c
same_unless_not true true h = refl
same_unless_not false false h = refl
same_unless_not true false h = absurd (h (λ e. true≢false e))
same_unless_not false true h = absurd (h (λ e. true≢false (sym e)))

-- shares that cannot fail to fit do fit
fit_unless_not : (F : Facts) (k : Side) (D : Parts) → ((SharesFit F k D → ⊥) → ⊥) → SharesFit F k D
fit_unless_not F k D h = (
  λ a. same_unless_not (D.actors1 a || D.actors2 a) (has F k a D.whole) (λ out. h (λ fit. out (fit.0 a))),
  λ x. same_unless_not (D.below1 x || D.below2 x) (under F k x D.whole) (λ out. h (λ fit. out (fit.1 x))),
)

-- the last ground of a split
long_last : (v : Option Refusal) (slot : ℕ) → first_of v (long_refusal (Some slot)) ≡ None → ⊥
long_last None slot e = refused _ e
long_last (Some w) slot e = refused _ e

module _ (d : Split) (S T : State) (h : Stepped (SplitStep d) S (Ok tt) T) where
  abbrev side : Side
  side = side_of_kind d.kind

  abbrev P : Type 0
  P = SharesFit S.facts side (parts_in d)

  -- however the shares are decided, no rule gets too long
  none_lowest : (shares : Bool) → Decides shares P → LowestLong side (parts_in d) S.slots None
  none_lowest shares e =
      none_long side (parts_in d) S.slots
      (λ slot l. long_last (parting_verdict S.facts d.kind d.whole d.part1 d.part2 shares) slot (accepted_none _ (h shares (Some slot) e l).answer))

  by : (shares : Bool) (e : Decides shares P) → split_verdict S.facts d.kind d.whole d.part1 d.part2 shares None ≡ None
  by shares e = accepted_none _ (h shares None e (none_lowest shares e)).answer

  fit : P
  fit =
      fit_unless_not S.facts side (parts_in d)
      (λ out.
      let e : Decides false P = (λ f. absurd (true≢false (sym f)), λ p. absurd (out p)) in
      let fits = split_fits S.facts d.kind (parts_in d) false e (first_passed _ _ (by false e)) in
      out (fits.actors, fits.below))

  pub split_taken : SplitTaken d S T
  split_taken =
      let e : Decides true P = (λ _. fit, λ _. refl) in
      record {
        fits = split_fits S.facts d.kind (parts_in d) true e (first_passed _ _ (by true e));
        facts = taken_facts _ S _ T (by true e) (h true None e (none_lowest true e));
        rules = taken_rules _ S _ T (by true e) (h true None e (none_lowest true e));
      }

pub accepted_splits : AcceptedSplits
accepted_splits d S T h = split_taken d S T h
