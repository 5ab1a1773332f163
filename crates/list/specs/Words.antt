-- What the words of a fact list say, and what becomes of them.
use Rattle.std.specs.Prelude.{◌≡◌, ℕ, zero, suc, ◌-◌, ◌/◌, ◌%◌, ◌<◌, ◌≤◌, min, Bool, true, false, ◌&&◌, ◌||◌, List, ◌++◌, length, take, drop, replicate, Option, MatchOption, ◌==◌, slice_index, slice_set}
use Rattle.std.specs.List.{position_or_len}
use Rattle.model.specs.Facts.{Facts, possible, fact_word}

-- What an unused word holds. It is the word of no fact.
abbrev pub free : ℕ
free = 4294967295

-- How many facts the words have room for: one in each word, at most all that are possible.
abbrev pub room : List ℕ → ℕ
room ws = min (length ws) 16576

-- How many words stand before the first w: the place of w, or the length of the list where w is not in it.
abbrev pub place : ℕ → List ℕ → ℕ
place w ws = position_or_len (λ v. v == w) ws

-- How many words are used: those before the first free one within the room.
abbrev pub used_words : List ℕ → ℕ
used_words ws = place free (take (room ws) ws)

-- w is one of the first n words.
unfoldable pub among : List ℕ → ℕ → ℕ → Bool
among ws w zero = false
among ws w (suc n) = slice_index ws n == w || among ws w n

-- r is the place of w, if w is one of the first n words.
abbrev pub PlaceAmong : List ℕ → ℕ → ℕ → Option ℕ → Type 0
PlaceAmong ws n w r = MatchOption r (among ws w n ≡ false) (λ i. (i < n) × (place w ws ≡ i))

-- The facts whose words are among the first n.
unfoldable pub listed : List ℕ → ℕ → Facts
listed ws n s x y = possible s x y && among ws (fact_word s x y) n

-- The words as a new list has them: free within the room, and beyond it as they were.
abbrev pub cleared : List ℕ → List ℕ
cleared ws = replicate (room ws) free ++ drop (room ws) ws

-- The words after a new fact is put: it goes into the first free word.
abbrev pub written : List ℕ → ℕ → ℕ → ℕ → List ℕ
written ws s x y = slice_set ws (used_words ws) (fact_word s x y)

-- The words without the one at place i of n used ones: the last used word moves into the gap, and its old place is free.
abbrev pub without : List ℕ → ℕ → ℕ → List ℕ
without ws n i = slice_set (slice_set ws i (slice_index ws (n - 1))) (n - 1) free

-- The words after a fact of the list is dropped.
abbrev pub erased : List ℕ → ℕ → ℕ → ℕ → List ℕ
erased ws s x y = without ws (used_words ws) (place (fact_word s x y) ws)

-- No two of the first n words are the same.
abbrev pub Apart : List ℕ → ℕ → Type 0
Apart ws n = (i j : ℕ) → (i < n) × (j < n) × (slice_index ws i ≡ slice_index ws j) → i ≡ j

-- Each of the first n words is the word of a possible fact.
abbrev pub FactWords : List ℕ → ℕ → Type 0
FactWords ws n = (i : ℕ) → i < n → possible (slice_index ws i / 4096) (slice_index ws i / 64 % 64) (slice_index ws i % 64) ≡ true

-- The words from n on are free, within the room.
abbrev pub Free : List ℕ → ℕ → Type 0
Free ws n = (i : ℕ) → n ≤ i → i < room ws → slice_index ws i ≡ free
