-- What the input of a step is read as: where its grounds accept it, what it stands for; and otherwise the refusal.
use Rattle.std.specs.Prelude.{◌≡◌, Result}
use Rattle.model.specs.declared.possible_fact.PossibleFact.{PossibleFact}
use Rattle.drafts.specs.Checks.{Checked}
use Rattle.drafts.specs.Inputs.{input_verdict}
use Rattle.drafts.specs.Pairs.{fact_of, new_pair, old_pair}
use Rattle.drafts.specs.Parts.{SplitOf}
use Rattle.drafts.specs.Ranges.{joining_in, stands_fact}
use Rattle.drafts.specs.declared.pair.Exchange.{Exchange}
use Rattle.drafts.specs.declared.range.JoinInRange.{JoinInRange}
use Rattle.drafts.specs.declared.range.SplitInRange.{SplitInRange}
use Rattle.drafts.specs.declared.refusal.Refusal.{Refusal}
use Rattle.drafts.specs.declared.step.Entity.{Entity}
use Rattle.drafts.specs.declared.step.Join.{Join}
use Rattle.drafts.specs.declared.step.Relink.{Relink}
use Rattle.drafts.specs.declared.step.Split.{Split}
use Rattle.drafts.specs.declared.step.Step.TheVariants.{Add, Join as JoinStep, Relink as RelinkStep, Split as SplitStep}

-- The fact that the entity stands.
abbrev pub StandingOf : Entity → Result PossibleFact Refusal → Type 0
StandingOf e r = Checked (input_verdict (Add e)) (λ f. f.fact ≡ stands_fact e) r

-- The two pairs of a relink are its old pair and its new one.
abbrev pub PairsOf : Relink → Exchange → Type 0
PairsOf step p = (fact_of p.old ≡ old_pair step) × (fact_of p.new ≡ new_pair step)

abbrev pub ExchangeOf : Relink → Result Exchange Refusal → Type 0
ExchangeOf step r = Checked (input_verdict (RelinkStep step)) (PairsOf step) r

-- The join with its side.
abbrev pub JoinOf : Join → Result JoinInRange Refusal → Type 0
JoinOf step r = Checked (input_verdict (JoinStep step)) (λ j. j.joining ≡ joining_in step) r

-- The split with its side and shares.
abbrev pub SplitRead : Split → Result SplitInRange Refusal → Type 0
SplitRead step r = Checked (input_verdict (SplitStep step)) (SplitOf step) r
