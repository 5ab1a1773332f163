-- The last answer of a stack.
use Rattle.std.proofs.Common.{◌≡◌, ℕ, Bool, List, [], ◌∷◌, Decides, subst}
use Rattle.model.specs.Facts.{Facts}
use Rattle.rules.specs.Trees.{Tree}
use Rattle.answers.specs.Qualify.{Qualifies}
use Rattle.answers.specs.Stack.{Answers}

-- where the stack answers for one tree, its last answer does
pub answered : {A : Type 0} (F : Facts) (a : ℕ) (isin : A → Bool) (all xs : List A) (x : A) (t : Tree) {ts : List Tree} → all ≡ x ∷ xs → ts ≡ t ∷ [] → Answers F a isin all ts → Decides (isin x) (Qualifies F t a)
answered F a isin all xs x t is whole h =
    (subst (λ ys. Answers F a isin ys (t ∷ [])) is (subst (λ us. Answers F a isin all us) whole h)).0
