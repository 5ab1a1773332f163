-- What is in one set and outside another.
use Rattle.std.specs.Prelude.{◌≡◌, ℕ, Bool, true, false, not, ◌&&◌, refl}
use Rattle.std.specs.Int.Bits.{bit_and, bit_xor}
use Rattle.std.proofs.Common.{ap, ◌∙◌}
use Rattle.bits.specs.Bit.{bit}
use Rattle.bits.proofs.Laws.{apart, bit-and, bit-xor}

-- what is in the one and not in both is outside the other
pub apart_from_both : (s x : Bool) → apart s (s && x) ≡ (s && not x)
apart_from_both true true = refl
apart_from_both true false = refl
apart_from_both false x = refl

-- the same of each number, for the words of two sets
pub bit_outside : (s x a : ℕ) → bit (bit_xor s (bit_and s x)) a ≡ (bit s a && not (bit x a))
bit_outside s x a = bit-xor s (bit_and s x) a ∙ ap (apart (bit s a)) (bit-and s x a) ∙ apart_from_both (bit s a) (bit x a)
