-- What each step does: its answer, and what model and book are afterwards.
use Rattle.std.specs.Prelude.{◌≡◌, ℕ, Bool, true, false, Some, None, Decides, Option, Result}
use Rattle.model.specs.Facts.{Facts, placed}
use Rattle.rules.specs.Edits.{joined_rule}
use Rattle.rules.specs.Scan.{fault_of}
use Rattle.drafts.specs.Grounds.{InPair, LinkCircle, RelinkCircle, JoinCircle, add_verdict, remove_verdict, link_verdict, unlink_verdict, relink_verdict, join_verdict, split_verdict, put_verdict, clear_verdict, side_of_kind}
use Rattle.drafts.specs.Joining.{joined}
use Rattle.drafts.specs.Outcomes.{answered, outcome}
use Rattle.drafts.specs.Shares.{LowestLong, SharesFit, parted_rule, parts_in}
use Rattle.drafts.specs.Slots.{Slots, each_edited, tree_of, written}
use Rattle.drafts.specs.Splitting.{parted}
use Rattle.drafts.specs.declared.refusal.Refusal.{Refusal}
use Rattle.drafts.specs.declared.step.Step.{Step}
use Rattle.drafts.specs.declared.step.Step.TheVariants.{Add, Remove, Link, Unlink, Relink, Join, Split, PutRule, RemoveRule}

-- A model and the slots of a book.
pub record State : Type 0 where
  pub facts : Facts
  pub slots : Slots

-- From one state, with this verdict and this new state where it accepts, the answer r and the state afterwards.
pub record Done (verdict : Option Refusal) (before new : State) (r : Result (Unit {0}) Refusal) (after : State) : Type 0 where
  pub answer : r ≡ answered verdict
  pub facts : (s x y : ℕ) → after.facts s x y ≡ outcome verdict new.facts before.facts s x y
  pub rules : (i : ℕ) → after.slots i ≡ outcome verdict new.slots before.slots i

-- The state with other facts.
abbrev pub with_facts : State → Facts → State
with_facts S F = record { facts = F; slots = S.slots }

-- The state with other slots.
abbrev pub with_slots : State → Slots → State
with_slots S B = record { facts = S.facts; slots = B }

-- What the step makes of a state S.
abbrev pub Stepped : Step → State → Result (Unit {0}) Refusal → State → Type 0
Stepped (Add e) S r T = Done (add_verdict S.facts e.kind e.number) S (with_facts S (placed S.facts e.kind e.number 0 true)) r T
Stepped (Remove e) S r T =
    (paired : Bool) → Decides paired (InPair S.facts e.kind e.number)
    → Done (remove_verdict S.facts e.kind e.number paired) S (with_facts S (placed S.facts e.kind e.number 0 false)) r T
Stepped (Link p) S r T =
    (circle : Bool) → Decides circle (LinkCircle S.facts p.sort p.x p.y)
    → Done (link_verdict S.facts p.sort p.x p.y circle) S (with_facts S (placed S.facts p.sort p.x p.y true)) r T
Stepped (Unlink p) S r T =
    Done (unlink_verdict S.facts p.sort p.x p.y) S (with_facts S (placed S.facts p.sort p.x p.y false)) r T
Stepped (Relink p) S r T =
    (circle : Bool) → Decides circle (RelinkCircle S.facts p.sort p.x p.y p.z)
    → Done (relink_verdict S.facts p.sort p.x p.y p.z circle) S
    (with_facts S (placed (placed S.facts p.sort p.x p.y false) p.sort p.x p.z true)) r T
Stepped (Join j) S r T =
    (circle : Bool) → Decides circle (JoinCircle S.facts j.kind j.first j.second j.into)
    → Done (join_verdict S.facts j.kind j.first j.second j.into circle) S
    (record {
      facts = joined (side_of_kind j.kind) j.first j.second j.into S.facts;
      slots = each_edited (joined_rule (side_of_kind j.kind) j.first j.second j.into) S.slots;
    }) r T
Stepped (Split d) S r T =
    (shares : Bool) (long : Option ℕ) → Decides shares (SharesFit S.facts (side_of_kind d.kind) (parts_in d))
    → LowestLong (side_of_kind d.kind) (parts_in d) S.slots long
    → Done (split_verdict S.facts d.kind d.whole d.part1 d.part2 shares long) S
    (record {
      facts = parted (side_of_kind d.kind) (parts_in d) S.facts;
      slots = each_edited (parted_rule (side_of_kind d.kind) (parts_in d)) S.slots;
    }) r T
Stepped (PutRule slot list) S r T =
    Done (put_verdict slot (fault_of list.now)) S (with_slots S (written S.slots slot (Some (tree_of list.now)))) r T
Stepped (RemoveRule slot) S r T = Done (clear_verdict S.slots slot) S (with_slots S (written S.slots slot None)) r T
