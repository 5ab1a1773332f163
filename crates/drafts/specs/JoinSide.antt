-- A join, at the facts of its side.
use Rattle.std.proofs.Common.{◌≡◌, ℕ, ◌<◌, true, not, ◌&&◌, ◌||◌, eqb, ⊎_elim, arith}
use Rattle.std.proofs.lemmas.Bool.{or_cases, and_parts, eqb-true}
use Rattle.rules.specs.Edits.{joins}
use Rattle.drafts.specs.Sided.{Sided}
use Rattle.drafts.specs.Joining.{joined_side}
use Rattle.drafts.specs.SideFacts.{InRange}

module _ (e f n : ℕ) (S : Sided) (r : InRange S) (l : n < 64) where
  above : (x y : ℕ) → (eqb x n && (not (joins e f y) && (S.under e y || S.under f y))) ≡ true → (x < 64) × (y < 64)
  above x y q =
      let p = and_parts (eqb x n) _ q in
      let z = eqb-true x n p.0 in
      (omega arith, ⊎_elim (λ u. (r.under e y u).1) (λ u. (r.under f y u).1) (or_cases (S.under e y) (S.under f y) (and_parts (not (joins e f y)) _ p.1).1))

  lower : (x y : ℕ) → (eqb y n && (not (joins e f x) && (S.under x e || S.under x f))) ≡ true → (x < 64) × (y < 64)
  lower x y q =
      let p = and_parts (eqb y n) _ q in
      let z = eqb-true y n p.0 in
      (⊎_elim (λ u. (r.under x e u).0) (λ u. (r.under x f u).0) (or_cases (S.under x e) (S.under x f) (and_parts (not (joins e f x)) _ p.1).1), omega arith)

  pub join-range : InRange (joined_side e f n S)
  unfolding joined_side
  join-range = record {
    stands = λ x h. ⊎_elim (λ q. let z = eqb-true x n q in omega arith) (λ q. r.stands x (and_parts (not (joins e f x)) (S.stands x) q).1) (or_cases (eqb x n) (not (joins e f x) && S.stands x) h);
    has = λ a y h. ⊎_elim
        (λ q. let p = and_parts (eqb y n) (S.has a e || S.has a f) q in
        let z = eqb-true y n p.0 in
        (⊎_elim (λ u. (r.has a e u).0) (λ u. (r.has a f u).0) (or_cases (S.has a e) (S.has a f) p.1), omega arith))
        (λ q. r.has a y (and_parts (not (joins e f y)) (S.has a y) q).1)
        (or_cases (eqb y n && (S.has a e || S.has a f)) (not (joins e f y) && S.has a y) h);
    under = λ x y h. ⊎_elim
        (λ q. ⊎_elim (above x y) (lower x y) (or_cases (eqb x n && (not (joins e f y) && (S.under e y || S.under f y))) (eqb y n && (not (joins e f x) && (S.under x e || S.under x f))) q))
        (λ q. r.under x y (and_parts (not (joins e f y)) (S.under x y) (and_parts (not (joins e f x)) _ q).1).1)
        (or_cases _ (not (joins e f x) && (not (joins e f y) && S.under x y)) (and_parts (not (eqb x y)) _ h).1);
  }
