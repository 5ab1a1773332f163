-- A step that is taken, and one that is refused.
use Rattle.std.proofs.Common.{◌≡◌, ℕ, Some, None, Ok, Err, Option, sym, refl, subst}
use Rattle.drafts.specs.declared.refusal.Refusal.{Refusal}
use Rattle.drafts.specs.Steps.{Done, State}

pub is-refused : (S new : State) (v : Option Refusal) (w : Refusal) → v ≡ Some w → Done v S new (Err w) S
is-refused S new v w e = subst (λ (u : Option Refusal). Done u S new (Err w) S) (sym e) (record { answer = refl; facts = λ s x y. refl; rules = λ i. refl })

pub is_taken : (S new T : State) (v : Option Refusal) → v ≡ None → ((s x y : ℕ) → T.facts s x y ≡ new.facts s x y) → ((i : ℕ) → T.slots i ≡ new.slots i) → Done v S new (Ok tt) T
is_taken S new T v e facts rules = subst (λ (u : Option Refusal). Done u S new (Ok tt) T) (sym e) (record { answer = refl; facts = facts; rules = rules })
