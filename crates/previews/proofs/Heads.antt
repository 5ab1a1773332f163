-- How many are in a set.
use Rattle.std.proofs.Common.{◌≡◌, ℕ, ◌^◌, ◌<◌, ◌≤◌, Bool, true, false, not, ◌&&◌, eqb, refl, ap, arith}
use Rattle.std.proofs.lemmas.Bool.{and_right, eq-eqb, ne_eqb}
use Rattle.bits.specs.Bit.{bit}
use Rattle.bits.specs.Total.{tally}
use Rattle.bits.proofs.Totals.{tally_less, tally-most}
use Rattle.bits.proofs.Laws.{bit_below}

-- at most 64
pub most_heads : (w : ℕ) → tally (bit w) 64 ≤ 64
most_heads w = tally-most (bit w) 64

-- with somebody in it, at least one
pub some-heads : (w a : ℕ) → w < 2 ^ 64 → bit w a ≡ true → 1 ≤ tally (bit w) 64
some-heads w a fits h =
    let less = tally_less (bit w) (λ k. bit w k && not (eqb k a)) 64 a (bit_below w 64 a fits h) h
    (and_right (bit w a) (not (eqb a a)) (ap not (eq-eqb a a refl))) (λ k d. other (bit w k) (eqb k a) (ne_eqb k a d)) in
    omega arith
  where
    other : (b e : Bool) → e ≡ false → (b && not e) ≡ b
    other true e h = ap not h
    other false e h = refl
