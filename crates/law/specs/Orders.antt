-- What an order does: the call that it makes, with the ticket in its place, answers and leaves what the call's own definition says.
use Rattle.std.specs.Prelude.{◌≡◌, Bool, true, false, Some, None, Ok, Err, Option, Result, MatchOption, slice_set}
use Rattle.bits.specs.declared.Bits.{Bits}
use Rattle.transfer.specs.Contents.{Writing}
use Rattle.previews.specs.declared.preview.Preview.{Preview}
use Rattle.engine.specs.declared.refusal.Refusal.{Refusal}
use Rattle.engine.specs.declared.ticket.OpenTicket.{OpenTicket}
use Rattle.engine.specs.declared.ticket.ClearedTicket.{ClearedTicket}
use Rattle.engine.specs.declared.ticket.Ticket.{Ticket}
use Rattle.engine.specs.declared.ticket.Ticket.TheVariants as T
use Rattle.engine.specs.Moments.{Moment, released}
use Rattle.engine.specs.Opening.{Opens, Reopens, Withdraws}
use Rattle.engine.specs.Stepping.{Steps}
use Rattle.engine.specs.Checking.{Checks}
use Rattle.engine.specs.Releasing.{Releases}
use Rattle.engine.specs.Asking.{TellsSet, TellsWhether, Foretells}
use Rattle.law.specs.declared.order.Order.{Order}
use Rattle.law.specs.declared.order.Order.TheVariants as O
use Rattle.law.specs.declared.order.Answer.{Answer}
use Rattle.law.specs.declared.order.Answer.TheVariants as A
use Rattle.law.specs.Purses.{Purse, ticket_at, if_open, if_cleared, is_free}

-- The engine at a moment, and the caller's purse.
pub record Scene : Type 0 where
  pub engine : Moment
  pub purse : Purse

-- No call is made, and nothing changes.
pub record NoCall (s : Scene) (a : Answer) (t : Scene) : Type 0 where
  pub answer : a ≡ A.NoCall
  pub after : t ≡ s

-- A call is made. It gives a result as its definition says, which is told as the answer and leaves the purse so.
pub record Called {R : Type 0} (Defined : R → Moment → Type 0) (told : R → Answer) (left : R → Purse) (a : Answer) (t : Scene) : Type 0 where
  pub result : R
  pub defined : Defined result t.engine
  pub answer : a ≡ told result
  pub purse : t.purse ≡ left result

-- A question is asked. Nothing changes.
pub record Asked {R : Type 0} (Defined : R → Type 0) (told : R → Answer) (s : Scene) (a : Answer) (t : Scene) : Type 0 where
  pub result : R
  pub defined : Defined result
  pub answer : a ≡ told result
  pub after : t ≡ s

-- ── what is told of a result ──

-- Accepted, or refused so.
abbrev pub told : {R : Type 0} → Answer → Result R Refusal → Answer
told a (Ok v) = a
told a (Err w) = A.Refused w

abbrev pub told_back : {R K : Type 0} → Answer → Result R (Refusal × K) → Answer
told_back a (Ok v) = a
told_back a (Err w) = A.Refused w.0

abbrev pub told_set : Result Bits Refusal → Answer
told_set (Ok v) = A.Set v
told_set (Err w) = A.Refused w

abbrev pub told_whether : Result Bool Refusal → Answer
told_whether (Ok v) = A.May v
told_whether (Err w) = A.Refused w

abbrev pub told_preview : Result Preview Refusal → Answer
told_preview (Ok v) = A.Preview v
told_preview (Err w) = A.Refused w

-- The answer of a call, or that it was refused.
abbrev pub outcome_of : Result Answer Refusal → Answer
outcome_of (Ok a) = a
outcome_of (Err w) = A.Refused w

-- ── what lies in the place afterwards ──

abbrev pub after_open : Result OpenTicket Refusal → Option Ticket
after_open (Ok k) = Some (T.Open k)
after_open (Err w) = None

abbrev pub after_check : Result ClearedTicket (Refusal × OpenTicket) → Option Ticket
after_check (Ok k) = Some (T.Cleared k)
after_check (Err w) = Some (T.Open w.1)

abbrev pub after_reopen : Result OpenTicket (Refusal × ClearedTicket) → Option Ticket
after_reopen (Ok k) = Some (T.Open k)
after_reopen (Err w) = Some (T.Cleared w.1)

abbrev pub after_release : Result (Unit {0}) (Refusal × ClearedTicket) → Option Ticket
after_release (Ok v) = None
after_release (Err w) = Some (T.Cleared w.1)

-- ── orders ──

-- The one where it is so, the other where it is not.
abbrev pub Either : Bool → Type 0 → Type 0 → Type 0
Either true P Q = P
Either false P Q = Q

-- From scene s the order is answered by a and leaves scene t. W says what becomes of the store's words.
abbrev pub Obeys : Writing → Order → Scene → Answer → Scene → Type 0
Obeys W (O.Open i) s a t =
    Either (is_free s.purse i) (Called (Opens s.engine) (told A.Opened) (λ r. slice_set s.purse i (after_open r)) a t) (NoCall s a t)
Obeys W (O.Step i step) s a t =
    MatchOption (if_open (ticket_at s.purse i)) (NoCall s a t) (λ k. Called (Steps s.engine k step) (told A.Stepped) (λ r. s.purse) a t)
Obeys W (O.Check i) s a t =
    MatchOption (if_open (ticket_at s.purse i)) (NoCall s a t)
    (λ k. Called (Checks s.engine k) (told_back A.Cleared) (λ r. slice_set s.purse i (after_check r)) a t)
Obeys W (O.Reopen i) s a t =
    MatchOption (if_cleared (ticket_at s.purse i)) (NoCall s a t)
    (λ k. Called (Reopens s.engine k) (told_back A.Reopened) (λ r. slice_set s.purse i (after_reopen r)) a t)
Obeys W (O.Release i) s a t =
    MatchOption (if_cleared (ticket_at s.purse i)) (NoCall s a t)
    (λ k. Called (Releases W s.engine k) (told_back A.Released) (λ r. slice_set s.purse i (after_release r)) a t)
Obeys W (O.Withdraw i) s a t =
    MatchOption (ticket_at s.purse i) (NoCall s a t)
    (λ k. Called (Withdraws s.engine k) (told A.Withdrawn) (λ r. slice_set s.purse i None) a t)
Obeys W (O.Set slot) s a t = Asked (TellsSet (released s.engine) slot) told_set s a t
Obeys W (O.May slot actor) s a t = Asked (TellsWhether (released s.engine) slot actor) told_whether s a t
Obeys W (O.Preview i slot) s a t =
    MatchOption (if_open (ticket_at s.purse i)) (NoCall s a t) (λ k. Asked (Foretells s.engine k slot) told_preview s a t)
