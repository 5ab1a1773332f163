-- A place of a purse: what is taken out of it, and what is laid into it.
use Rattle.std.proofs.Common.{◌≡◌, ℕ, set, Some, None, Option, sym, ap, ◌∙◌, set-set}
use lib.Seq.{set-get_or}
use Rattle.engine.specs.declared.ticket.Ticket.{Ticket}
use Rattle.law.specs.Purses.{Purse, ticket_at}

-- What is laid into an emptied place lies there in the place of what lay there before.
pub laid : (p q t : Purse) (i : ℕ) (held : Option Ticket) → q ≡ set p i None → t ≡ set q i held → t ≡ set p i held
laid p q t i held e d = d ∙ ap (λ (z : Purse). set z i held) e ∙ set-set p i None held

-- A ticket that is laid back leaves the purse as it was.
pub laid_back : (p q t : Purse) (i : ℕ) (k : Ticket) → ticket_at p i ≡ Some k → q ≡ set p i None → t ≡ set q i (Some k) → t ≡ p
laid_back p q t i k e d f = laid p q t i (Some k) d f ∙ ap (set p i) (sym e) ∙ set-get_or p i None
