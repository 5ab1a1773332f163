-- What each step's grounds give on a model: the first that applies, or else what the step stands for. Where a ground takes a search to decide, whatever yes
-- or no decides it.
use Rattle.std.specs.Prelude.{◌≡◌, ℕ, Bool, Decides, Option, Result}
use Rattle.model.specs.Facts.{Facts}
use Rattle.model.specs.declared.fact.Fact.{Fact}
use Rattle.model.specs.declared.possible_fact.PossibleFact.{PossibleFact}
use Rattle.drafts.specs.Checks.{Checked}
use Rattle.drafts.specs.Grounds.{InPair, JoinCircle, LinkCircle, RelinkCircle, add_verdict, join_verdict, link_verdict, parting_verdict, relink_verdict, remove_verdict, side_of_kind, split_verdict, unlink_verdict}
use Rattle.drafts.specs.Pairs.{fact_of}
use Rattle.drafts.specs.Parts.{FittingSplit, SplitOf}
use Rattle.drafts.specs.Ranges.{joining_in, stands_fact}
use Rattle.drafts.specs.Read.{PairsOf}
use Rattle.drafts.specs.Shares.{LowestLong, SharesFit, parts_in}
use Rattle.drafts.specs.Slots.{Slots}
use Rattle.drafts.specs.declared.pair.Exchange.{Exchange}
use Rattle.drafts.specs.declared.pair.Pair.{Pair}
use Rattle.drafts.specs.declared.range.JoinInRange.{JoinInRange}
use Rattle.drafts.specs.declared.range.SplitInRange.{SplitInRange}
use Rattle.drafts.specs.declared.refusal.Refusal.{Refusal}
use Rattle.drafts.specs.declared.step.Entity.{Entity}
use Rattle.drafts.specs.declared.step.Join.{Join}
use Rattle.drafts.specs.declared.step.Relink.{Relink}
use Rattle.drafts.specs.declared.step.Split.{Split}

-- Adding the entity.
abbrev pub AddJudged : Facts → Entity → Result PossibleFact Refusal → Type 0
AddJudged F e r = Checked (add_verdict F e.kind e.number) (λ f. f.fact ≡ stands_fact e) r

-- Removing it.
abbrev pub RemoveJudged : Facts → Entity → Result PossibleFact Refusal → Type 0
RemoveJudged F e r =
    (paired : Bool) → Decides paired (InPair F e.kind e.number)
    → Checked (remove_verdict F e.kind e.number paired) (λ f. f.fact ≡ stands_fact e) r

-- Linking the pair.
abbrev pub LinkJudged : Facts → Fact → Result Pair Refusal → Type 0
LinkJudged F p r =
    (circle : Bool) → Decides circle (LinkCircle F p.sort p.x p.y)
    → Checked (link_verdict F p.sort p.x p.y circle) (λ q. fact_of q ≡ p) r

-- Unlinking it.
abbrev pub UnlinkJudged : Facts → Fact → Result Pair Refusal → Type 0
UnlinkJudged F p r = Checked (unlink_verdict F p.sort p.x p.y) (λ q. fact_of q ≡ p) r

-- Relinking: the pair (x, y) becomes (x, z).
abbrev pub RelinkJudged : Facts → Relink → Result Exchange Refusal → Type 0
RelinkJudged F step r =
    (circle : Bool) → Decides circle (RelinkCircle F step.sort step.x step.y step.z)
    → Checked (relink_verdict F step.sort step.x step.y step.z circle) (PairsOf step) r

-- Joining the two.
abbrev pub JoinJudged : Facts → Join → Result JoinInRange Refusal → Type 0
JoinJudged F step r =
    (circle : Bool) → Decides circle (JoinCircle F step.kind step.first step.second step.into)
    → Checked (join_verdict F step.kind step.first step.second step.into circle) (λ j. j.joining ≡ joining_in step) r

-- Splitting, by the grounds that the model shows.
abbrev pub PartingJudged : Facts → Split → Result SplitInRange Refusal → Type 0
PartingJudged F d r =
    (shares : Bool) → Decides shares (SharesFit F (side_of_kind d.kind) (parts_in d))
    → Checked (parting_verdict F d.kind d.whole d.part1 d.part2 shares) (SplitOf d) r

-- Splitting, by all its grounds.
abbrev pub SplitJudged : Facts → Slots → Split → Result SplitInRange Refusal → Type 0
SplitJudged F B d r =
    (shares : Bool) (long : Option ℕ) → Decides shares (SharesFit F (side_of_kind d.kind) (parts_in d))
    → LowestLong (side_of_kind d.kind) (parts_in d) B long
    → Checked (split_verdict F d.kind d.whole d.part1 d.part2 shares long) (FittingSplit d B) r
