-- Questions: the set for a slot, yes or no for a slot and an actor, and a preview. None of them changes anything.
use Rattle.std.specs.Prelude.{◌≡◌, ℕ, Bool, not, ◌&&◌, ◌||◌, Some, None, Ok, Err, Decides, Option, Result, nat_lt}
use Rattle.std.specs.Borrow.{Bor}
use Rattle.bits.specs.declared.Bits.{Bits}
use Rattle.rules.specs.Rules.{rule_tree}
use Rattle.rules.specs.Trees.{Tree}
use Rattle.rules.specs.declared.rule.Rule.{Rule}
use Rattle.answers.specs.Qualify.{Qualifies}
use Rattle.previews.specs.Previews.{PeopleOf, Previewed}
use Rattle.previews.specs.declared.preview.Preview.{Preview}
use Rattle.drafts.specs.Grounds.{is_empty}
use Rattle.drafts.specs.Slots.{Slots}
use Rattle.drafts.specs.Steps.{State}
use Rattle.engine.specs.declared.refusal.Refusal.{Refusal}
use Rattle.engine.specs.declared.refusal.Refusal.TheVariants.{Ticket, Range, Empty}
use Rattle.engine.specs.declared.ticket.OpenTicket.{OpenTicket}
use Rattle.engine.specs.Answered.{refused_if}
use Rattle.engine.specs.Moments.{Moment, open_draft}

-- The rule in a slot, or that the slot is empty.
abbrev pub RuleAt : Slots → (slot : ℕ) → Result (Bor Rule) Refusal → Type 0
RuleAt B slot (Ok r) = B slot ≡ Some (rule_tree r.now)
RuleAt B slot (Err w) = (B slot ≡ None) × (w ≡ Empty slot)

-- The slot and the actor asked about must be in range, then the slot must be filled.
abbrev pub question_verdict : Slots → (slot : ℕ) → (in_range : Bool) → Option Refusal
question_verdict B slot in_range = refused_if (not in_range) (Range slot) (refused_if (is_empty (B slot)) (Empty slot) None)

-- The people of the released rule in the released model.
abbrev pub TellsSet : State → (slot : ℕ) → Result Bits Refusal → Type 0
TellsSet S slot (Ok set) =
    (question_verdict S.slots slot (nat_lt slot 32) ≡ None) × ((t : Tree) × (S.slots slot ≡ Some t) × PeopleOf S.facts t set)
TellsSet S slot (Err w) = question_verdict S.slots slot (nat_lt slot 32) ≡ Some w

-- Whether the actor qualifies for the released rule in the released model.
abbrev pub TellsWhether : State → (slot actor : ℕ) → Result Bool Refusal → Type 0
TellsWhether S slot a (Ok b) =
    (question_verdict S.slots slot (nat_lt slot 32 && nat_lt a 64) ≡ None)
    × ((t : Tree) × (S.slots slot ≡ Some t) × Decides b (Qualifies S.facts t a))
TellsWhether S slot a (Err w) = question_verdict S.slots slot (nat_lt slot 32 && nat_lt a 64) ≡ Some w

-- A preview wants the slot filled in the draft and in the book.
abbrev pub filled_verdict : Slots → (slot : ℕ) → Option State → Option Refusal
filled_verdict B slot None = Some (Ticket slot)
filled_verdict B slot (Some D) = refused_if (is_empty (D.slots slot) || is_empty (B slot)) (Empty slot) None

abbrev pub preview_verdict : Moment → OpenTicket → (slot : ℕ) → Option Refusal
preview_verdict m k slot = refused_if (not (nat_lt slot 32)) (Range slot) (filled_verdict m.book slot (open_draft m k))

-- The draft's rule in the draft's model, against the released rule in the released model.
pub record Foretold (m : Moment) (k : OpenTicket) (slot : ℕ) (p : Preview) : Type 0 where
  pub draft : State
  pub of_ticket : open_draft m k ≡ Some draft
  pub new : Tree
  pub in_draft : draft.slots slot ≡ Some new
  pub old : Tree
  pub in_book : m.book slot ≡ Some old
  pub previewed : Previewed draft.facts new m.store.facts old p

abbrev pub Foretells : Moment → OpenTicket → (slot : ℕ) → Result Preview Refusal → Type 0
Foretells m k slot (Ok p) = (preview_verdict m k slot ≡ None) × Foretold m k slot p
Foretells m k slot (Err w) = preview_verdict m k slot ≡ Some w
