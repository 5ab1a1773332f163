-- Sets with the same numbers are the same.
use Rattle.std.proofs.Common.{◌≡◌, ℕ, ap}
use Rattle.bits.specs.declared.Bits.{Bits}
use Rattle.bits.specs.Bit.{bit}
use Rattle.bits.proofs.Laws.{bit-same}

pub same_set : (x y : Bits) → ((k : ℕ) → bit x.word k ≡ bit y.word k) → x ≡ y
same_set x y h = ap (λ (w : ℕ). record { word = w }) (bit-same x.word y.word h)
