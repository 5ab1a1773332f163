-- What a test of the numbers from 0 up says.
use Rattle.std.proofs.Common.{◌≡◌, ℕ, ◌<◌, Bool, true, false, length, sym, subst, arith}
use Rattle.std.proofs.lemmas.Bool.{true≢false}
use Rattle.std.proofs.lemmas.List.FromFn.{length-range_with_len, get_or-range_with_len}
use Rattle.std.specs.Bool.{MatchBool}
use Rattle.std.specs.List.{range_with_len, AllWithin, HoldsAt}

-- `any` over a range: some number passes, or none does
pub any_below : (r : Bool) (n : ℕ) (Yes No : ℕ → Type 0)
    → MatchBool r ((k : ℕ) × (k < length (range_with_len 0 n)) × HoldsAt Yes (range_with_len 0 n) k) (AllWithin No (range_with_len 0 n) 0 (length (range_with_len 0 n)))
    → (r ≡ true → (x : ℕ) × Yes x) × (r ≡ false → (x : ℕ) → x < n → No x)
any_below true n Yes No (k, l, at) = (
  λ e. (k, subst Yes (let m = length-range_with_len 0 n in let i = get_or-range_with_len 0 n k 0 (omega arith) in omega arith) (at 0)),
  λ e. absurd (true≢false e),
)
any_below false n Yes No none = (
  λ e. absurd (true≢false (sym e)),
  λ e x l. subst No (let i = get_or-range_with_len 0 n x 0 l in omega arith) (none x 0 (omega arith) (let m = length-range_with_len 0 n in omega arith)),
)
