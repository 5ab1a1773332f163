-- Why a step is refused whatever the draft holds: the grounds that its input alone shows. They stand first among a step's grounds.
use Rattle.std.specs.Prelude.{ℕ, Bool, not, ◌&&◌, ◌||◌, None, Option, ◌==◌, nat_lt}
use Rattle.rules.specs.Scan.{fault_of}
use Rattle.drafts.specs.Grounds.{refused_if, entity_range, pair_range, hierarchy, group_range, put_verdict}
use Rattle.drafts.specs.declared.refusal.Refusal.{Refusal}
use Rattle.drafts.specs.declared.refusal.Refusal.TheVariants.{Range, Same}
use Rattle.drafts.specs.declared.step.Step.{Step}
use Rattle.drafts.specs.declared.step.Step.TheVariants.{Add, Remove, Link, Unlink, Relink, Join, Split, PutRule, RemoveRule}

-- A range first, then two numbers that must differ.
abbrev pub range_then_same : (in_range same : Bool) → Option Refusal
range_then_same in_range same = refused_if (not in_range) (Range 255) (refused_if same Same None)

-- The first ground that the input shows, if it shows one.
abbrev pub input_verdict : Step → Option Refusal
input_verdict (Add e) = refused_if (not (entity_range e.kind e.number)) (Range 255) None
input_verdict (Remove e) = refused_if (not (entity_range e.kind e.number)) (Range 255) None
input_verdict (Link p) = range_then_same (pair_range p.sort p.x p.y) (hierarchy p.sort && p.x == p.y)
input_verdict (Unlink p) = refused_if (not (pair_range p.sort p.x p.y)) (Range 255) None
input_verdict (Relink p) =
    range_then_same (pair_range p.sort p.x p.y && pair_range p.sort p.x p.z) (p.y == p.z || (hierarchy p.sort && p.x == p.z))
input_verdict (Join j) = range_then_same (group_range j.kind j.first j.second j.into) (j.first == j.second)
input_verdict (Split d) = range_then_same (group_range d.kind d.whole d.part1 d.part2) (d.part1 == d.part2)
input_verdict (PutRule slot list) = put_verdict slot (fault_of list.now)
input_verdict (RemoveRule slot) = refused_if (not (nat_lt slot 32)) (Range slot) None

-- The slot that is handed in with a step, or 255 where there is none.
abbrev pub step_slot : Step → ℕ
step_slot (Add e) = 255
step_slot (Remove e) = 255
step_slot (Link p) = 255
step_slot (Unlink p) = 255
step_slot (Relink p) = 255
step_slot (Join j) = 255
step_slot (Split d) = 255
step_slot (PutRule slot list) = slot
step_slot (RemoveRule slot) = slot
