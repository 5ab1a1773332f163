-- Pairs that can be, and what they say.
use Rattle.std.specs.Prelude.{◌≡◌, ℕ, Result}
use Rattle.model.specs.Sides.{has_sort, under_sort}
use Rattle.model.specs.declared.fact.Fact.{Fact}
use Rattle.drafts.specs.declared.pair.PairSort.{PairSort}
use Rattle.drafts.specs.declared.pair.PairSort.TheVariants.{Has, Under}
use Rattle.drafts.specs.declared.pair.Pair.{Pair}
use Rattle.drafts.specs.declared.refusal.Refusal.{Refusal}
use Rattle.drafts.specs.declared.step.Relink.{Relink}
use Rattle.drafts.specs.declared.step.Step.TheVariants.{Unlink}
use Rattle.drafts.specs.Checks.{Checked}
use Rattle.drafts.specs.Inputs.{input_verdict}

-- The number of the sort of a pair.
abbrev pub pair_number : PairSort → ℕ
pair_number (Has k) = has_sort k
pair_number (Under k) = under_sort k

-- The fact that a pair is.
abbrev pub fact_of : Pair → Fact
fact_of p = record { sort = pair_number p.sort; x = p.x; y = p.y }

-- The pair that the fact is, where sort and numbers are in range.
abbrev pub PairOf : Fact → Result Pair Refusal → Type 0
PairOf f r = Checked (input_verdict (Unlink f)) (λ p. fact_of p ≡ f) r

-- The pair that a relink takes out, and the one that it puts in.
abbrev pub old_pair : Relink → Fact
old_pair r = record { sort = r.sort; x = r.x; y = r.y }

abbrev pub new_pair : Relink → Fact
new_pair r = record { sort = r.sort; x = r.x; y = r.z }
