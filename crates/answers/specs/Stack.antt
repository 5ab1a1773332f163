-- A stack of answers against the trees that it answers for.
use Rattle.std.specs.Prelude.{◌≡◌, ℕ, ◌+◌, ◌-◌, Bool, true, cond, List, [], ◌∷◌, reverse, take, Decides}
use Rattle.model.specs.Facts.{Facts}
use Rattle.rules.specs.declared.node.Node.{Node}
use Rattle.rules.specs.Rules.{grown}
use Rattle.rules.specs.Trees.{Tree, operator}
use Rattle.answers.specs.Qualify.{Qualifies}

-- The answers on a stack, the last first, and how many there is room for.
pub record Stacked (A : Type 0) : Type 0 where
  pub answers : List A
  pub room : ℕ

-- The first n of the stack, the last first.
abbrev pub top_down : {A : Type 0} → ℕ → List A → List A
top_down n xs = reverse (take n xs)

-- Each answer says of actor a what the tree at its place says.
abbrev pub Answers : {A : Type 0} → Facts → ℕ → (A → Bool) → List A → List Tree → Type 0
Answers F a isin [] [] = Unit {0}
Answers F a isin [] (t ∷ ts) = ⊥
Answers F a isin (x ∷ xs) [] = ⊥
Answers F a isin (x ∷ xs) (t ∷ ts) = Decides (isin x) (Qualifies F t a) × Answers F a isin xs ts

-- How many answers are on the stack after a node.
abbrev pub height : ℕ → Node → ℕ
height n v = cond (operator v) (n - 1) (n + 1)

-- Where the answers before the node answer for trees, those after it answer for the trees after it, of each actor asked about.
abbrev pub Takes : {A : Type 0} → Facts → (ℕ → Bool) → (A → ℕ → Bool) → Node → List A → List A → Type 0
Takes F asks isin v before after =
    (ts : List Tree) (a : ℕ) → asks a ≡ true → Answers F a (λ x. isin x a) before ts → Answers F a (λ x. isin x a) after (grown v ts)
