-- What holds of an engine at every moment, with the steps that its change in preparation held so far.
use Rattle.std.proofs.Common.{◌≡◌, ◌≤◌, Bool, true, false, cond, Some, None, subst}
use Rattle.model.specs.Sizes.{size}
use Rattle.drafts.specs.Steps.{State}
use Rattle.drafts.specs.declared.step.Step.{Step}
use Rattle.effects.specs.Sound.{Sound}
use Rattle.engine.specs.Checking.{AllValid}
use Rattle.engine.specs.Moments.{Moment, Change, idle, opened, cleared, released, draft_if_open, draft_if_cleared, open_draft, cleared_draft, names}
use Rattle.engine.specs.declared.ticket.OpenTicket.{OpenTicket}
use Rattle.engine.specs.declared.ticket.ClearedTicket.{ClearedTicket}
use Rattle.law.specs.Prepared.{Prepared}
use Rattle.law.proofs.Carry.{widened}

-- the draft was prepared by steps of this kind, and a cleared one is valid and fits
abbrev pub InOrder : (Step → Type 0) → Moment → Change → Type 0
InOrder Kind m idle = Unit {0}
InOrder Kind m (opened D) = Prepared Kind (released m) D
InOrder Kind m (cleared D) = Prepared Kind (released m) D × AllValid D × (size D.facts ≤ m.store.capacity)

pub record Upright (Kind : Step → Type 0) (m : Moment) : Type 0 where
  pub sound : Sound m.store.facts
  pub valid : AllValid (released m)
  pub change : InOrder Kind m m.change

wider : (K L : Step → Type 0) → ((step : Step) → K step → L step) → (m : Moment) (c : Change) → InOrder K m c → InOrder L m c
wider K L wide m idle p = tt
wider K L wide m (opened D) p = widened K L wide (released m) D p
wider K L wide m (cleared D) p = (widened K L wide (released m) D p.0, p.1, p.2)

pub upright_wider : (K L : Step → Type 0) → ((step : Step) → K step → L step) → (m : Moment) → Upright K m → Upright L m
upright_wider K L wide m u = record { sound = u.sound; valid = u.valid; change = wider K L wide m m.change u.change }

if_open : (b : Bool) (c : Change) (D : State) → cond b (draft_if_open c) None ≡ Some D → c ≡ opened D
if_open false c D e = cc
if_open true idle D e = cc
if_open true (opened E) D e = cc
if_open true (cleared E) D e = cc

if_cleared : (b : Bool) (c : Change) (D : State) → cond b (draft_if_cleared c) None ≡ Some D → c ≡ cleared D
if_cleared false c D e = cc
if_cleared true idle D e = cc
if_cleared true (opened E) D e = cc
if_cleared true (cleared E) D e = cc

-- the draft of an accepted ticket is the change's
pub drafted : (Kind : Step → Type 0) (m : Moment) (k : OpenTicket) (D : State) → open_draft m k ≡ Some D → Upright Kind m → InOrder Kind m (opened D)
drafted Kind m k D e u = subst (InOrder Kind m) (if_open (names m k.engine k.change) m.change D e) u.change

pub clear : (Kind : Step → Type 0) (m : Moment) (k : ClearedTicket) (D : State) → cleared_draft m k ≡ Some D → Upright Kind m → InOrder Kind m (cleared D)
clear Kind m k D e u = subst (InOrder Kind m) (if_cleared (names m k.engine k.change) m.change D e) u.change
