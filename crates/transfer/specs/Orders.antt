-- The order in which a model is written to a store.
use Rattle.std.specs.Prelude.{◌≡◌, ℕ, zero, suc, ◌<◌, cond, ◌⊎◌}
use Rattle.model.specs.Facts.{Facts, fact_word}
use Rattle.transfer.specs.Contents.{Content, Writing, after_put, after_drop}

-- One after another for the numbers below n, in ascending order.
unfoldable pub ascending : {A : Type 0} → (ℕ → A → A) → ℕ → A → A
ascending f zero a = a
ascending f (suc n) a = f n (ascending f n a)

-- For the facts of sort s and lower number x, ascending by y.
abbrev pub each_upper : {A : Type 0} → (ℕ → ℕ → ℕ → A → A) → ℕ → ℕ → A → A
each_upper f s x = ascending (f s x) 64

-- For the facts of sort s, ascending by x and then by y.
abbrev pub each_of_sort : {A : Type 0} → (ℕ → ℕ → ℕ → A → A) → ℕ → A → A
each_of_sort f s = ascending (each_upper f s) 64

-- For every fact, ascending by its word: by sort, then by x, then by y.
abbrev pub each_fact : {A : Type 0} → (ℕ → ℕ → ℕ → A → A) → A → A
each_fact f = ascending (each_of_sort f) 7

-- The fact is dropped where the model lacks it. Where the store lacks it too, that changes nothing.
abbrev pub drop_surplus : Writing → Facts → ℕ → ℕ → ℕ → Content → Content
drop_surplus W M s x y C = cond (M s x y) C (after_drop W s x y C)

-- The fact is put where the model has it. Where the store has it too, that changes nothing.
abbrev pub put_missing : Writing → Facts → ℕ → ℕ → ℕ → Content → Content
put_missing W M s x y C = cond (M s x y) (after_put W s x y C) C

-- A model is written to a store: first what the model lacks is dropped, ascending by fact word; then what the store lacks is put, ascending.
abbrev pub written_out : Writing → Facts → Content → Content
written_out W M C = each_fact (put_missing W M) (each_fact (drop_surplus W M) C)

-- By sort, then by x, then by y is ascending by fact word.
abbrev pub AscendsByWord : Type 0
AscendsByWord =
    (s x y t u v : ℕ) → x < 64 → y < 64 → u < 64 → v < 64
    → (s < t) ⊎ ((s ≡ t) × ((x < u) ⊎ ((x ≡ u) × (y < v)))) → fact_word s x y < fact_word t u v
