-- What a possible fact is made of.
use Rattle.std.proofs.Common.{◌≡◌, ℕ, ◌<◌, ◌≤◌, true, false, ◌&&◌, ◌||◌, eqb, ltb, leb, ◌⊎◌, inl, inr, ⊎_elim}
use Rattle.std.proofs.lemmas.Bool.{eqb-true, eq-eqb, and_parts, and_from, or_cases, or_left, or_right, ltb-true, lt-ltb, leb-true, le-leb, both_ways}
use Rattle.model.specs.Facts.{possible, same}

pub record Parts (s x y : ℕ) : Type 0 where
  pub sort : s < 7
  pub lower : x < 64
  pub upper : y < 64
  pub pair : (3 ≤ s) ⊎ (y ≡ 0)

pub parts : (s x y : ℕ) → possible s x y ≡ true → Parts s x y
parts s x y h =
    let p = and_parts (ltb s 7) (ltb x 64 && (ltb y 64 && (leb 3 s || eqb y 0))) h in
    let q = and_parts (ltb x 64) (ltb y 64 && (leb 3 s || eqb y 0)) p.1 in
    let r = and_parts (ltb y 64) (leb 3 s || eqb y 0) q.1 in
    record {
      sort = ltb-true s 7 p.0;
      lower = ltb-true x 64 q.0;
      upper = ltb-true y 64 r.0;
      pair = ⊎_elim (λ e. inl (leb-true 3 s e)) (λ e. inr (eqb-true y 0 e)) (or_cases (leb 3 s) (eqb y 0) r.1);
    }

pub whole : (s x y : ℕ) → Parts s x y → possible s x y ≡ true
whole s x y p =
    and_from (ltb s 7) (ltb x 64 && (ltb y 64 && (leb 3 s || eqb y 0))) (lt-ltb s 7 p.sort)
    (and_from (ltb x 64) (ltb y 64 && (leb 3 s || eqb y 0)) (lt-ltb x 64 p.lower)
    (and_from (ltb y 64) (leb 3 s || eqb y 0) (lt-ltb y 64 p.upper)
    (⊎_elim (λ e. or_left (leb 3 s) (eqb y 0) (le-leb 3 s e)) (λ e. or_right (leb 3 s) (eqb y 0) (eq-eqb y 0 e)) p.pair)))

-- another fact differs somewhere
pub not_same : (s x y a b c : ℕ) → same s x y a b c ≡ false → a ≡ s → b ≡ x → c ≡ y → ⊥
not_same s x y a b c h ea eb ec =
    both_ways (same s x y a b c) h
    (and_from (eqb a s) (eqb b x && eqb c y) (eq-eqb a s ea) (and_from (eqb b x) (eqb c y) (eq-eqb b x eb) (eq-eqb c y ec)))
