use Rattle.std.proofs.Common.{◌≡◌, ℕ, ◌<◌, true, false, not, ◌&&◌, eqb, ltb, sym, ap, ◌∙◌, subst, ⊎_elim, arith}
use Rattle.std.proofs.lemmas.Bool.{and_parts, and_from, or_cases, or_left, or_right, and_left, cases_Bool, both_ways, eqb-true, eq-eqb, ne_eqb, lt-ltb, not-true, not_from_false}
use Rattle.bits.specs.Bit.{bit}
use Rattle.model.specs.Chains.{one, more}
use Rattle.model.specs.Sides.{under, under_sort}
use Rattle.model.proofs.Closure.{closed, below-number, fewer, or-none}
use Rattle.model.proofs.chains.all_below.Goals as goal

pub loop-y-init : goal.loop-y-init
loop-y-init g c =
    let S = g.R.Reading.held c.args.reading.now in
    let sort : c.under_sort.result ≡ under_sort c.args.side = c.under_sort.ensures in
    let row : (x : ℕ) → bit c.row-found.result.word x ≡ under S c.args.side x c.args.top = λ x. c.row-found.ensures x ∙ ap (λ (s : ℕ). S s x c.args.top) sort in
    (λ x h. one (sym (row x) ∙ h), λ x h. row x ∙ h, λ x m h d. absurd (both_ways (bit c.none-done.result.word m) (c.none-done.ensures m) d))

-- the one that is taken up is found and not done
next : (g : _) (c : goal.After-with-done g) → (bit c.loop-y.found.word c.in-Some.y ≡ true) × (bit c.loop-y.done.word c.in-Some.y ≡ false)
next g c =
    let y = c.in-Some.y in
    let p = and_parts (bit c.loop-y.found.word y) (not (bit c.loop-y.done.word y)) (sym (c.minus.ensures y) ∙ c.in-Some.ensures.0) in
    (p.0, not-true (bit c.loop-y.done.word y) p.1)

row : (g : _) (c : goal.After-with-done g) (x : ℕ) → bit c.row.result.word x ≡ under (g.R.Reading.held c.args.reading.now) c.args.side x c.in-Some.y
row g c x = c.row.ensures x ∙ ap (λ (s : ℕ). g.R.Reading.held c.args.reading.now s x c.in-Some.y) c.under_sort-in-Some.ensures

pub loop-y-smaller : goal.loop-y-smaller
loop-y-smaller g c =
    let S = g.R.Reading.held c.args.reading.now in
    let y = c.in-Some.y in
    let old = c.loop-y.done.word in
    let new = c.with-done.result.word in
    let n = next g c in
    let l : y < 64 = below-number S c.args.side (g.met.R.Reading.only_possible c.args.reading.now) (c.loop-y.invariant.0 y n.0) in
    fewer (bit old) (bit new) 64 y l n.1
    (c.with-done.ensures y ∙ or_right (bit old y) (eqb y y && ltb y 64) (and_from (eqb y y) (ltb y 64) (eq-eqb y y (omega arith)) (lt-ltb y 64 l)))
    (λ k d. c.with-done.ensures k ∙ or-none (bit old k) (eqb k y && ltb y 64) (and_left (eqb k y) (ltb y 64) (ne_eqb k y d)))

pub loop-y-preserved : goal.loop-y-preserved
loop-y-preserved g c =
    let y = c.in-Some.y in
    let found = c.loop-y.found.word in
    let w = c.row.result.word in
    let d = c.loop-y.done.word in (
      λ x h. ⊎_elim (c.loop-y.invariant.0 x) (λ e. more (sym (row g c x) ∙ e) (c.loop-y.invariant.0 y (next g c).0)) (or_cases (bit found x) (bit w x) (sym (c.or-found.ensures x) ∙ h)),
      λ x h. c.or-found.ensures x ∙ or_left (bit found x) (bit w x) (c.loop-y.invariant.1 x h),
      λ x m h e. c.or-found.ensures x ∙ ⊎_elim
          (λ q. or_left (bit found x) (bit w x) (c.loop-y.invariant.2 x m h q))
          (λ q. or_right (bit found x) (bit w x) (row g c x ∙ subst (λ (z : ℕ). under (g.R.Reading.held c.args.reading.now) c.args.side x z ≡ true) (eqb-true m y (and_parts (eqb m y) (ltb y 64) q).0) h))
          (or_cases (bit d m) (eqb m y && ltb y 64) (sym (c.with-done.ensures m) ∙ e)),
    )

pub returns : goal.returns
returns g c =
    λ x. (
      c.loop-y.invariant.0 x,
      closed (under (g.R.Reading.held c.args.reading.now) c.args.side) (bit c.loop-y.found.word) c.args.top c.loop-y.invariant.1
          (λ z m h e. c.loop-y.invariant.2 z m h (all_done m e)),
    )
  where
    all_done : (m : ℕ) → bit c.loop-y.found.word m ≡ true → bit c.loop-y.done.word m ≡ true
    all_done m e =
        ⊎_elim (λ q. q)
        (λ q. absurd (both_ways (bit c.minus.result.word m) (c.in_default.ensures m)
        (c.minus.ensures m ∙ and_from (bit c.loop-y.found.word m) (not (bit c.loop-y.done.word m)) e (not_from_false (bit c.loop-y.done.word m) q))))
        (cases_Bool (bit c.loop-y.done.word m))
