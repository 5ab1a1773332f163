-- A split, at the facts of its side.
use Rattle.std.proofs.Common.{◌≡◌, ℕ, ◌<◌, Bool, true, not, ◌&&◌, ◌||◌, eqb, ⊎_elim, arith}
use Rattle.std.proofs.lemmas.Bool.{or_cases, and_parts, eqb-true}
use Rattle.bits.proofs.Laws.{bit_below}
use Rattle.drafts.specs.declared.range.SplitInRange.{SplitInRange}
use Rattle.drafts.specs.Parts.{parts_of}
use Rattle.drafts.specs.Sided.{Sided}
use Rattle.drafts.specs.Splitting.{Parts, parted_side}
use Rattle.drafts.specs.SideFacts.{InRange}

-- the parts and the shares are in range
pub record Low (D : Parts) : Type 0 where
  pub part1 : D.part1 < 64
  pub part2 : D.part2 < 64
  pub actors1 : (a : ℕ) → D.actors1 a ≡ true → a < 64
  pub actors2 : (a : ℕ) → D.actors2 a ≡ true → a < 64
  pub below1 : (x : ℕ) → D.below1 x ≡ true → x < 64
  pub below2 : (x : ℕ) → D.below2 x ≡ true → x < 64

module _ (D : Parts) (S : Sided) (r : InRange S) (l : Low D) where
  part : (x : ℕ) → (eqb x D.part1 || eqb x D.part2) ≡ true → x < 64
  part x h =
      let l1 = l.part1 in
      let l2 = l.part2 in
      ⊎_elim (λ q. let z = eqb-true x D.part1 q in omega arith) (λ q. let z = eqb-true x D.part2 q in omega arith) (or_cases (eqb x D.part1) (eqb x D.part2) h)

  share : (x y n : ℕ) (s : ℕ → Bool) → n < 64 → ((a : ℕ) → s a ≡ true → a < 64) → (eqb y n && s x) ≡ true → (x < 64) × (y < 64)
  share x y n s low each h = let p = and_parts (eqb y n) (s x) h in let z = eqb-true y n p.0 in (each x p.1, omega arith)

  pub parted-range : InRange (parted_side D S)
  unfolding parted_side
  parted-range = record {
    stands = λ x h. ⊎_elim (part x) (λ q. r.stands x (and_parts (not (eqb x D.whole)) (S.stands x) q).1) (or_cases (eqb x D.part1 || eqb x D.part2) _ h);
    has = λ a y h. ⊎_elim
        (λ q. ⊎_elim (share a y D.part1 D.actors1 l.part1 l.actors1) (share a y D.part2 D.actors2 l.part2 l.actors2) (or_cases (eqb y D.part1 && D.actors1 a) (eqb y D.part2 && D.actors2 a) q))
        (λ q. r.has a y (and_parts (not (eqb y D.whole)) (S.has a y) q).1)
        (or_cases ((eqb y D.part1 && D.actors1 a) || (eqb y D.part2 && D.actors2 a)) _ h);
    under = λ x y h. ⊎_elim
        (λ q. ⊎_elim
        (λ u. ⊎_elim
        (λ v. let p = and_parts (eqb x D.part1 || eqb x D.part2) (S.under D.whole y) v in (part x p.0, (r.under D.whole y p.1).1))
        (share x y D.part1 D.below1 l.part1 l.below1)
        (or_cases ((eqb x D.part1 || eqb x D.part2) && S.under D.whole y) (eqb y D.part1 && D.below1 x) u))
        (share x y D.part2 D.below2 l.part2 l.below2)
        (or_cases (((eqb x D.part1 || eqb x D.part2) && S.under D.whole y) || (eqb y D.part1 && D.below1 x)) (eqb y D.part2 && D.below2 x) q))
        (λ q. r.under x y (and_parts (not (eqb y D.whole)) (S.under x y) (and_parts (not (eqb x D.whole)) _ q).1).1)
        (or_cases ((((eqb x D.part1 || eqb x D.part2) && S.under D.whole y) || (eqb y D.part1 && D.below1 x)) || (eqb y D.part2 && D.below2 x)) _ h);
  }

pub low_of : (s : SplitInRange) → Low (parts_of s)
low_of s = record {
  part1 = s.part1_low;
  part2 = s.part2_low;
  actors1 = λ a h. bit_below s.share1.actors.word 64 a s.share1.actors_fit h;
  actors2 = λ a h. bit_below s.share2.actors.word 64 a s.share2.actors_fit h;
  below1 = λ a h. bit_below s.share1.below.word 64 a s.share1.below_fit h;
  below2 = λ a h. bit_below s.share2.below.word 64 a s.share2.below_fit h;
}
