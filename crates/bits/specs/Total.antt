-- Sums, and how many numbers pass a test.
use Rattle.std.specs.Prelude.{ℕ, zero, suc, ◌+◌, Bool, cond}

-- f 0 + f 1 + .. + f (n - 1)
unfoldable pub total : (ℕ → ℕ) → ℕ → ℕ
total f zero = 0
total f (suc n) = total f n + f n

-- One for yes, nothing for no.
abbrev pub unit : Bool → ℕ
unit b = cond b 1 0

-- How many of the numbers below n pass the test.
abbrev pub tally : (ℕ → Bool) → ℕ → ℕ
tally f n = total (λ k. unit (f k)) n
