-- What the input of a step stands for.
use Rattle.model.specs.declared.fact.Fact.{Fact}
use Rattle.rules.specs.declared.change.Joining.{Joining}
use Rattle.rules.specs.declared.change.Splitting.{Splitting}
use Rattle.drafts.specs.Grounds.{side_of_kind}
use Rattle.drafts.specs.declared.step.Entity.{Entity}
use Rattle.drafts.specs.declared.step.Join.{Join}
use Rattle.drafts.specs.declared.step.Split.{Split}

-- The fact that the entity stands.
abbrev pub stands_fact : Entity → Fact
stands_fact e = record { sort = e.kind; x = e.number; y = 0 }

abbrev pub joining_in : Join → Joining
joining_in j = record { side = side_of_kind j.kind; first = j.first; second = j.second; into = j.into }

abbrev pub splitting_in : Split → Splitting
splitting_in d = record { side = side_of_kind d.kind; whole = d.whole; part1 = d.part1; part2 = d.part2 }
