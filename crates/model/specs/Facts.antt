-- Facts, and sets of facts.
use Rattle.std.specs.Prelude.{◌≡◌, ℕ, ◌+◌, ◌*◌, Bool, true, false, cond, ◌&&◌, ◌||◌, ◌==◌, nat_le, nat_lt}

-- A set of facts says of each fact, by its sort s and its numbers x and y, whether it is in the set.
abbrev pub Facts : Type 0
Facts = ℕ → ℕ → ℕ → Bool

-- The possible facts. Sorts 0, 1, 2: actor, role, unit x stands, and y is 0. Sort 3: actor x has role y. Sort 4: actor x belongs to unit y.
-- Sort 5: role x is directly below role y. Sort 6: unit x is directly below unit y. Numbers go from 0 to 63.
abbrev pub possible : Facts
possible s x y = nat_lt s 7 && (nat_lt x 64 && (nat_lt y 64 && (nat_le 3 s || y == 0)))

-- Every fact of the set is possible.
abbrev pub OnlyPossible : Facts → Type 0
OnlyPossible S = (s x y : ℕ) → S s x y ≡ true → possible s x y ≡ true

-- The set of no facts.
abbrev pub nothing : Facts
nothing s x y = false

-- a b c is the fact s x y.
abbrev pub same : ℕ → ℕ → ℕ → ℕ → ℕ → ℕ → Bool
same s x y a b c = a == s && (b == x && c == y)

-- The set with the fact s x y in it, if v is true, or without it. Nothing else differs.
unfoldable pub placed : Facts → ℕ → ℕ → ℕ → Bool → Facts
placed S s x y v a b c = cond (same s x y a b c) v (S a b c)

-- The number that stands for a fact in a list of facts.
abbrev pub fact_word : ℕ → ℕ → ℕ → ℕ
fact_word s x y = s * 4096 + x * 64 + y
