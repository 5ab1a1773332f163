-- What an accepting verdict says of each ground.
use Rattle.std.proofs.Common.{◌≡◌, ℕ, Bool, true, false, not, ◌&&◌, ltb, Some, None, Decides, Option, sym, refl, ap, ◌∙◌, inl, inr, arith}
use Rattle.std.proofs.lemmas.Bool.{not-false, and_parts, ltb-true, leb-true, true≢false, cond-true, cond-false}
use Rattle.model.specs.Facts.{possible}
use Rattle.model.proofs.Possible.{whole}
use Rattle.drafts.specs.declared.refusal.Refusal.{Refusal}
use Rattle.drafts.specs.Grounds.{refused_if, entity_range, pair_range, pair_sort}

-- a ground that did not refuse does not apply
pub passed : (b : Bool) (w : Refusal) (rest : Option Refusal) → refused_if b w rest ≡ None → (b ≡ false) × (rest ≡ None)
passed true w rest e = let z : ◌≡◌ {A = ℕ} 0 1 = cc in absurd (omega arith)
passed false w rest e = (refl, e)

pub entity_possible : (kind n : ℕ) → not (entity_range kind n) ≡ false → possible kind n 0 ≡ true
entity_possible kind n h =
    let p = and_parts (ltb kind 3) (ltb n 64) (not-false (entity_range kind n) h) in
    let k = ltb-true kind 3 p.0 in
    whole kind n 0 (record { sort = omega arith; lower = ltb-true n 64 p.1; upper = omega arith; pair = inr refl })

pub pair_possible : (s x y : ℕ) → pair_range s x y ≡ true → possible s x y ≡ true
pair_possible s x y h =
    let p = and_parts (pair_sort s) (ltb x 64 && ltb y 64) h in
    let q = and_parts _ (ltb s 7) p.0 in
    let r = and_parts (ltb x 64) (ltb y 64) p.1 in
    whole s x y (record { sort = ltb-true s 7 q.1; lower = ltb-true x 64 r.0; upper = ltb-true y 64 r.1; pair = inl (leb-true 3 s q.0) })

-- a refusal is no acceptance
pub refused : {A : Type 0} (w : Refusal) → ◌≡◌ {A = Option Refusal} (Some w) None → A
refused w e = absurd (true≢false (ap is_some e))
  where
    is_some : Option Refusal → Bool
    is_some None = false
    is_some (Some v) = true

-- two that decide the same are equal
pub decides_same : (P : Type 0) (a b : Bool) → Decides a P → Decides b P → a ≡ b
decides_same P true b d e = sym (e.1 (d.0 refl))
decides_same P false true d e = d.1 (e.0 refl)
decides_same P false false d e = refl

-- a ground that applies refuses
pub applies : (b : Bool) (w : Refusal) (rest : Option Refusal) → b ≡ true → Some w ≡ refused_if b w rest
applies b w rest h = sym (cond-true b (Some w) rest h)

-- a ground that does not apply leaves it to those below it
pub next : (b : Bool) (w : Refusal) (rest v : Option Refusal) → b ≡ false → v ≡ rest → v ≡ refused_if b w rest
next b w rest v h e = e ∙ sym (cond-false b (Some w) rest h)
