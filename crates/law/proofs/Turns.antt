-- One order of a run: what it keeps, and what it does to the released rules.
use Rattle.std.proofs.Common.{◌≡◌, ℕ, ◌+◌, ◌<◌, ◌≤◌, ◌≢◌, Bool, true, false, ◌⊎◌, List, pos, negsuc, ◌≤ℤ◌, Some, None, Ok, Err, Option, Result, sym, refl, ap, ◌∙◌, subst, inl, inr, ⊎_elim, arith, MatchOption}
use Rattle.std.proofs.lemmas.Bool.{cases_lt}
use Rattle.transfer.specs.Contents.{Writing}
use Rattle.previews.specs.declared.preview.Preview.{Preview}
use Rattle.drafts.specs.Inputs.{input_verdict, step_slot}
use Rattle.drafts.specs.Steps.{State, Stepped}
use Rattle.drafts.specs.declared.refusal.Refusal.{Refusal as StepRefusal}
use Rattle.drafts.specs.declared.step.Step.{Step}
use Rattle.effects.specs.Sound.{Sound}
use Rattle.engine.specs.Answered.{Gives, answered, outcome}
use Rattle.engine.specs.Asking.{TellsSet, TellsWhether, Foretells}
use Rattle.engine.specs.Checking.{AllValid, Checks, Checked, Finds, check_answer}
use Rattle.engine.specs.Moments.{Moment, idle, opened, cleared, released, with_change, open_draft, cleared_draft, draft_of}
use Rattle.engine.specs.Opening.{Opens, Reopens, Withdraws, begun, open_ticket, open_verdict}
use Rattle.engine.specs.Releasing.{Releases, Released}
use Rattle.engine.specs.Stepping.{Steps, StepTaken, after_step, step_answer}
use Rattle.engine.specs.declared.refusal.Refusal.{Refusal}
use Rattle.engine.specs.declared.refusal.Refusal.TheVariants as W
use Rattle.engine.specs.declared.refusal.Unfit.{Unfit}
use Rattle.engine.specs.declared.ticket.OpenTicket.{OpenTicket}
use Rattle.engine.specs.declared.ticket.ClearedTicket.{ClearedTicket}
use Rattle.engine.specs.declared.ticket.Ticket.{Ticket}
use Rattle.law.specs.Changes.{Holds}
use Rattle.law.specs.Law.{at}
use Rattle.law.specs.Orders.{Scene, NoCall, Called, Asked, Either, Obeys, told, told_back, told_set, told_whether, told_preview, after_open, after_check, after_reopen, after_release as release_leaves}
use Rattle.law.specs.Prepared.{Prepared, copied, stepped}
use Rattle.law.specs.Purses.{Purse, ticket_at, if_open, if_cleared, is_free}
use Rattle.law.specs.Runs.{Run, order_at}
use Rattle.law.specs.declared.order.Order.{Order}
use Rattle.law.specs.declared.order.Order.TheVariants as O
use Rattle.law.specs.declared.order.Answer.{Answer}
use Rattle.law.specs.declared.order.Answer.TheVariants as A
use Rattle.law.proofs.Carry.{widened, prepared_sound}
use Rattle.law.proofs.Upright.{InOrder, Upright, upright_wider, drafted, clear}

abbrev pub InRange : Preview → Type 0
InRange p = (negsuc 63 ≤ℤ p.difference) × (p.difference ≤ℤ pos 63)

module _ {Wr : Writing} {start : Scene} {orders : List Order} {n : ℕ} (run : Run Wr start orders n) where
  pub record Turn (k : ℕ) : Type 0 where
    pub next : Upright (Holds run (k + 1)) (at run (k + 1))
    pub moves : (released (at run (k + 1)) ≡ released (at run k))
        ⊎ ((run.answer k ≡ A.Released) × Prepared (Holds run k) (released (at run k)) (released (at run (k + 1))))
    pub range : (p : Preview) → run.answer k ≡ A.Preview p → InRange p

  -- unless a change is opened, the steps held stay held
  held_on : (k : ℕ) → run.answer k ≢ A.Opened → (step : Step) → Holds run k step → Holds run (k + 1) step
  held_on k shut step h =
      record {
        at = h.at;
        before = let b = h.before in omega arith;
        made = h.made;
        same_change = λ j after before e.
            ⊎_elim (λ (l : j < k). h.same_change j after l e)
            (λ (l : k ≤ j). let same : j ≡ k = omega arith in shut (ap run.answer (sym same) ∙ e))
            (cases_lt j k);
      }

  no_preview : (k : ℕ) (a : Answer) → run.answer k ≡ a → ((p : Preview) → a ≢ A.Preview p) → (p : Preview) → run.answer k ≡ A.Preview p → InRange p
  no_preview k a is other p e = absurd (other p (sym is ∙ e))

  -- only the change in preparation moved
  advanced : (k : ℕ) (a : Answer) (m : Moment) → run.answer k ≡ a → ((p : Preview) → a ≢ A.Preview p) → at run (k + 1) ≡ m → released m ≡ released (at run k)
      → Upright (Holds run (k + 1)) m → Turn k
  advanced k a m is other e same u =
      record { next = subst (Upright (Holds run (k + 1))) (sym e) u; moves = inl (ap released e ∙ same); range = no_preview k a is other }

  -- nothing moved
  quiet : (k : ℕ) (a : Answer) → run.answer k ≡ a → a ≢ A.Opened → ((p : Preview) → a ≢ A.Preview p) → at run (k + 1) ≡ at run k → Upright (Holds run k) (at run k) → Turn k
  quiet k a is shut other e u =
      advanced k a (at run k) is other e refl (upright_wider (Holds run k) (Holds run (k + 1)) (held_on k (λ o. shut (sym is ∙ o))) (at run k) u)

  refused : (k : ℕ) (w : Refusal) → run.answer k ≡ A.Refused w → at run (k + 1) ≡ at run k → Upright (Holds run k) (at run k) → Turn k
  refused k w a e u = quiet k (A.Refused w) a (λ o. cc) (λ p o. cc) e u

  not_called : (k : ℕ) → NoCall (run.scene k) (run.answer k) (run.scene (k + 1)) → Upright (Holds run k) (at run k) → Turn k
  not_called k c u = quiet k A.NoCall c.answer (λ o. cc) (λ p o. cc) (ap (λ (s : Scene). s.engine) c.after) u

  -- ── opening ──

  opening : (k : ℕ) (left : Result OpenTicket Refusal → Purse) → Called (Opens (at run k)) (told A.Opened) left (run.answer k) (run.scene (k + 1))
      → Upright (Holds run k) (at run k) → Turn k
  opening k left c u = by_verdict (open_verdict (at run k)) c.defined
    where
      by_verdict : (v : Option Refusal) → Gives c.result (answered v (open_ticket (at run k).number ((at run k).changes + 1))) (at run (k + 1)) (outcome v (begun (at run k)) (at run k))
          → Turn k
      by_verdict (Some w) g = refused k w (c.answer ∙ ap (told A.Opened) g.answer) g.after u
      by_verdict None g =
          advanced k A.Opened (begun (at run k)) (c.answer ∙ ap (told A.Opened) g.answer) (λ p o. cc) g.after refl
          (record { sound = u.sound; valid = u.valid; change = copied refl })

  -- ── steps ──

  stepping : (k i : ℕ) (step : Step) (key : OpenTicket) (left : Result (Unit {0}) Refusal → Purse) → order_at orders k ≡ O.Step i step
      → Called (Steps (at run k) key step) (told A.Stepped) left (run.answer k) (run.scene (k + 1)) → Upright (Holds run k) (at run k) → Turn k
  stepping k i step key left order c u = by_input (input_verdict step) c.defined
    where
      by_verdict : (D E : State) → open_draft (at run k) key ≡ Some D → (v : Result (Unit {0}) StepRefusal) → Stepped step D v E
          → Gives c.result (step_answer v) (at run (k + 1)) (after_step v (at run k) E) → Turn k
      by_verdict D E mine (Err w) v g = refused k (W.Step w) (c.answer ∙ ap (told A.Stepped) g.answer) g.after u
      by_verdict D E mine (Ok y) v g =
          let accepted : run.answer k ≡ A.Stepped = c.answer ∙ ap (told A.Stepped) g.answer in
          let so_far = widened (Holds run k) (Holds run (k + 1)) (held_on k (λ o. cc)) (released (at run k)) D
          (drafted (Holds run k) (at run k) key D mine u) in
          let now_held : Holds run (k + 1) step = record {
            at = k;
            before = omega arith;
            made = record { place = i; order = order; accepted = accepted };
            same_change = λ j after before e. absurd (omega arith);
          } in
          advanced k A.Stepped (with_change (at run k) (opened E)) accepted (λ p o. cc) g.after refl
          (record { sound = u.sound; valid = u.valid; change = stepped step so_far now_held v })

      by_draft : (o : Option State) → open_draft (at run k) key ≡ o
          → MatchOption o (Gives c.result (Err (W.Ticket (step_slot step))) (at run (k + 1)) (at run k)) (λ D. StepTaken (at run k) step D c.result (at run (k + 1))) → Turn k
      by_draft None mine g = refused k (W.Ticket (step_slot step)) (c.answer ∙ ap (told A.Stepped) g.answer) g.after u
      by_draft (Some D) mine g = by_verdict D g.draft mine g.result g.stepped g.gives

      by_input : (v : Option StepRefusal)
          → MatchOption v
          (MatchOption (open_draft (at run k) key) (Gives c.result (Err (W.Ticket (step_slot step))) (at run (k + 1)) (at run k))
          (λ D. StepTaken (at run k) step D c.result (at run (k + 1))))
          (λ w. Gives c.result (Err (W.Step w)) (at run (k + 1)) (at run k)) → Turn k
      by_input (Some w) g = refused k (W.Step w) (c.answer ∙ ap (told A.Stepped) g.answer) g.after u
      by_input None g = by_draft (open_draft (at run k) key) refl g

  -- ── check ──

  checking : (k : ℕ) (key : OpenTicket) (left : Result ClearedTicket (Refusal × OpenTicket) → Purse)
      → Called (Checks (at run k) key) (told_back A.Cleared) left (run.answer k) (run.scene (k + 1)) → Upright (Holds run k) (at run k) → Turn k
  checking k key left c u = by_draft (open_draft (at run k) key) refl c.defined
    where
      by_found : (D : State) → open_draft (at run k) key ≡ Some D → (v : Option Unfit) → Finds (at run k).store.capacity D v
          → Gives c.result (check_answer v key) (at run (k + 1)) (outcome v (with_change (at run k) (cleared D)) (at run k)) → Turn k
      by_found D mine (Some w) f g = refused k (W.Unfit w) (c.answer ∙ ap (told_back A.Cleared) g.answer) g.after u
      by_found D mine None f g =
          let accepted : run.answer k ≡ A.Cleared = c.answer ∙ ap (told_back A.Cleared) g.answer in
          let so_far = widened (Holds run k) (Holds run (k + 1)) (held_on k (λ o. cc)) (released (at run k)) D
          (drafted (Holds run k) (at run k) key D mine u) in
          advanced k A.Cleared (with_change (at run k) (cleared D)) accepted (λ p o. cc) g.after refl
          (record { sound = u.sound; valid = u.valid; change = (so_far, f.0, f.1) })

      by_draft : (o : Option State) → open_draft (at run k) key ≡ o
          → MatchOption o (Gives c.result (Err (W.Ticket 255, key)) (at run (k + 1)) (at run k)) (λ D. Checked (at run k) key D c.result (at run (k + 1))) → Turn k
      by_draft None mine g = refused k (W.Ticket 255) (c.answer ∙ ap (told_back A.Cleared) g.answer) g.after u
      by_draft (Some D) mine g = by_found D mine g.found g.finds g.gives

  -- ── reopening ──

  reopening : (k : ℕ) (key : ClearedTicket) (left : Result OpenTicket (Refusal × ClearedTicket) → Purse)
      → Called (Reopens (at run k) key) (told_back A.Reopened) left (run.answer k) (run.scene (k + 1)) → Upright (Holds run k) (at run k) → Turn k
  reopening k key left c u = by_draft (cleared_draft (at run k) key) refl c.defined
    where
      by_draft : (o : Option State) → cleared_draft (at run k) key ≡ o
          → MatchOption o (Gives c.result (Err (W.Ticket 255, key)) (at run (k + 1)) (at run k))
          (λ D. Gives c.result (Ok (open_ticket key.engine key.change)) (at run (k + 1)) (with_change (at run k) (opened D))) → Turn k
      by_draft None mine g = refused k (W.Ticket 255) (c.answer ∙ ap (told_back A.Reopened) g.answer) g.after u
      by_draft (Some D) mine g =
          let accepted : run.answer k ≡ A.Reopened = c.answer ∙ ap (told_back A.Reopened) g.answer in
          let so_far = widened (Holds run k) (Holds run (k + 1)) (held_on k (λ o. cc)) (released (at run k)) D
          (clear (Holds run k) (at run k) key D mine u).0 in
          advanced k A.Reopened (with_change (at run k) (opened D)) accepted (λ p o. cc) g.after refl
          (record { sound = u.sound; valid = u.valid; change = so_far })

  -- ── release ──

  releasing : (k : ℕ) (key : ClearedTicket) (left : Result (Unit {0}) (Refusal × ClearedTicket) → Purse)
      → Called (Releases Wr (at run k) key) (told_back A.Released) left (run.answer k) (run.scene (k + 1)) → Upright (Holds run k) (at run k) → Turn k
  releasing k key left c u = by_draft (cleared_draft (at run k) key) refl c.defined
    where
      by_draft : (o : Option State) → cleared_draft (at run k) key ≡ o
          → MatchOption o (Gives c.result (Err (W.Ticket 255, key)) (at run (k + 1)) (at run k)) (λ D. Released Wr (at run k) D c.result (at run (k + 1))) → Turn k
      by_draft None mine g = refused k (W.Ticket 255) (c.answer ∙ ap (told_back A.Released) g.answer) g.after u
      by_draft (Some D) mine g =
          let was = clear (Holds run k) (at run k) key D mine u in
          let accepted : run.answer k ≡ A.Released = c.answer ∙ ap (told_back A.Released) g.gives.answer in
          let facts = g.exact was.2 in
          let slots = ap (λ (m : Moment). m.book) g.gives.after in
          let new : released (at run (k + 1)) ≡ D = λ i. record { facts = facts i; slots = slots i } in
          let ended = ap (λ (m : Moment). m.change) g.gives.after in
          record {
            next = record {
              sound = subst (λ (F : Rattle.model.specs.Facts.Facts). Sound F) (sym facts) (prepared_sound (Holds run k) (released (at run k)) D was.0 u.sound);
              valid = subst AllValid (sym new) was.1;
              change = subst (InOrder (Holds run (k + 1)) (at run (k + 1))) (sym ended) tt;
            };
            moves = inr (accepted, subst (Prepared (Holds run k) (released (at run k))) (sym new) was.0);
            range = no_preview k A.Released accepted (λ p o. cc);
          }

  -- ── withdrawal ──

  withdrawing : (k : ℕ) (key : Ticket) (left : Result (Unit {0}) Refusal → Purse)
      → Called (Withdraws (at run k) key) (told A.Withdrawn) left (run.answer k) (run.scene (k + 1)) → Upright (Holds run k) (at run k) → Turn k
  withdrawing k key left c u = by_draft (draft_of (at run k) key) c.defined
    where
      by_draft : (o : Option State)
          → MatchOption o (Gives c.result (Err (W.Ticket 255)) (at run (k + 1)) (at run k)) (λ D. Gives c.result (Ok tt) (at run (k + 1)) (with_change (at run k) idle)) → Turn k
      by_draft None g = refused k (W.Ticket 255) (c.answer ∙ ap (told A.Withdrawn) g.answer) g.after u
      by_draft (Some D) g =
          advanced k A.Withdrawn (with_change (at run k) idle) (c.answer ∙ ap (told A.Withdrawn) g.answer) (λ p o. cc) g.after refl
          (record { sound = u.sound; valid = u.valid; change = tt })

  -- ── questions ──

  same_engine : (k : ℕ) → run.scene (k + 1) ≡ run.scene k → at run (k + 1) ≡ at run k
  same_engine k e = ap (λ (s : Scene). s.engine) e

  asking_set : (k slot : ℕ) → Asked (TellsSet (released (at run k)) slot) told_set (run.scene k) (run.answer k) (run.scene (k + 1))
      → Upright (Holds run k) (at run k) → Turn k
  asking_set k slot c u = by_result c.result c.answer
    where
      by_result : (r : Result Rattle.bits.specs.declared.Bits.Bits Refusal) → run.answer k ≡ told_set r → Turn k
      by_result (Ok v) e = quiet k (A.Set v) e (λ o. cc) (λ p o. cc) (same_engine k c.after) u
      by_result (Err w) e = refused k w e (same_engine k c.after) u

  asking_whether : (k slot actor : ℕ) → Asked (TellsWhether (released (at run k)) slot actor) told_whether (run.scene k) (run.answer k) (run.scene (k + 1))
      → Upright (Holds run k) (at run k) → Turn k
  asking_whether k slot actor c u = by_result c.result c.answer
    where
      by_result : (r : Result Bool Refusal) → run.answer k ≡ told_whether r → Turn k
      by_result (Ok v) e = quiet k (A.May v) e (λ o. cc) (λ p o. cc) (same_engine k c.after) u
      by_result (Err w) e = refused k w e (same_engine k c.after) u

  previewing : (k slot : ℕ) (key : OpenTicket) → Asked (Foretells (at run k) key slot) told_preview (run.scene k) (run.answer k) (run.scene (k + 1))
      → Upright (Holds run k) (at run k) → Turn k
  previewing k slot key c u = by_result c.result c.defined c.answer
    where
      by_result : (r : Result Preview Refusal) → Foretells (at run k) key slot r → run.answer k ≡ told_preview r → Turn k
      by_result (Err w) d e = refused k w e (same_engine k c.after) u
      by_result (Ok p) d e =
          let seen = d.1.previewed in
          let most = seen.most (u.valid slot d.1.old d.1.in_book).somebody in
          record {
            next = subst (Upright (Holds run (k + 1))) (sym (same_engine k c.after))
                (upright_wider (Holds run k) (Holds run (k + 1)) (held_on k (λ o. cc)) (at run k) u);
            moves = inl (ap released (same_engine k c.after));
            range = λ q f.
                let same : p ≡ q = cc in
                subst InRange same (seen.least, most);
          }

  -- ── every order ──

  by_order : (k : ℕ) (o : Order) → order_at orders k ≡ o → Obeys Wr o (run.scene k) (run.answer k) (run.scene (k + 1)) → Upright (Holds run k) (at run k) → Turn k
  by_order k (O.Open i) e d u = by_free (is_free (run.scene k).purse i) d
    where
      by_free : (b : Bool)
          → Either b (Called (Opens (at run k)) (told A.Opened) (λ r. lib.ListN.set (run.scene k).purse i (after_open r)) (run.answer k) (run.scene (k + 1)))
          (NoCall (run.scene k) (run.answer k) (run.scene (k + 1))) → Turn k
      by_free true c = opening k _ c u
      by_free false c = not_called k c u
  by_order k (O.Step i step) e d u = by_ticket (if_open (ticket_at (run.scene k).purse i)) d
    where
      by_ticket : (o : Option OpenTicket)
          → MatchOption o (NoCall (run.scene k) (run.answer k) (run.scene (k + 1)))
          (λ key. Called (Steps (at run k) key step) (told A.Stepped) (λ r. (run.scene k).purse) (run.answer k) (run.scene (k + 1))) → Turn k
      by_ticket None c = not_called k c u
      by_ticket (Some key) c = stepping k i step key _ e c u
  by_order k (O.Check i) e d u = by_ticket (if_open (ticket_at (run.scene k).purse i)) d
    where
      by_ticket : (o : Option OpenTicket)
          → MatchOption o (NoCall (run.scene k) (run.answer k) (run.scene (k + 1)))
          (λ key. Called (Checks (at run k) key) (told_back A.Cleared) (λ r. lib.ListN.set (run.scene k).purse i (after_check r)) (run.answer k) (run.scene (k + 1))) → Turn k
      by_ticket None c = not_called k c u
      by_ticket (Some key) c = checking k key _ c u
  by_order k (O.Reopen i) e d u = by_ticket (if_cleared (ticket_at (run.scene k).purse i)) d
    where
      by_ticket : (o : Option ClearedTicket)
          → MatchOption o (NoCall (run.scene k) (run.answer k) (run.scene (k + 1)))
          (λ key. Called (Reopens (at run k) key) (told_back A.Reopened) (λ r. lib.ListN.set (run.scene k).purse i (after_reopen r)) (run.answer k) (run.scene (k + 1))) → Turn k
      by_ticket None c = not_called k c u
      by_ticket (Some key) c = reopening k key _ c u
  by_order k (O.Release i) e d u = by_ticket (if_cleared (ticket_at (run.scene k).purse i)) d
    where
      by_ticket : (o : Option ClearedTicket)
          → MatchOption o (NoCall (run.scene k) (run.answer k) (run.scene (k + 1)))
          (λ key. Called (Releases Wr (at run k) key) (told_back A.Released) (λ r. lib.ListN.set (run.scene k).purse i (release_leaves r)) (run.answer k) (run.scene (k + 1))) → Turn k
      by_ticket None c = not_called k c u
      by_ticket (Some key) c = releasing k key _ c u
  by_order k (O.Withdraw i) e d u = by_ticket (ticket_at (run.scene k).purse i) d
    where
      by_ticket : (o : Option Ticket)
          → MatchOption o (NoCall (run.scene k) (run.answer k) (run.scene (k + 1)))
          (λ key. Called (Withdraws (at run k) key) (told A.Withdrawn) (λ r. lib.ListN.set (run.scene k).purse i None) (run.answer k) (run.scene (k + 1))) → Turn k
      by_ticket None c = not_called k c u
      by_ticket (Some key) c = withdrawing k key _ c u
  by_order k (O.Set slot) e d u = asking_set k slot d u
  by_order k (O.May slot actor) e d u = asking_whether k slot actor d u
  by_order k (O.Preview i slot) e d u = by_ticket (if_open (ticket_at (run.scene k).purse i)) d
    where
      by_ticket : (o : Option OpenTicket)
          → MatchOption o (NoCall (run.scene k) (run.answer k) (run.scene (k + 1)))
          (λ key. Asked (Foretells (at run k) key slot) told_preview (run.scene k) (run.answer k) (run.scene (k + 1))) → Turn k
      by_ticket None c = not_called k c u
      by_ticket (Some key) c = previewing k slot key c u

  pub turn : (k : ℕ) → k < n → Upright (Holds run k) (at run k) → Turn k
  turn k l u = by_order k (order_at orders k) refl (run.goes_on k l) u
