-- A question has one answer.
use Rattle.std.proofs.Common.{◌≡◌, ℕ, Bool, true, false, Ok, Err, Decides, Result, sym, refl, ap, subst}
use Rattle.bits.specs.Bit.{bit}
use Rattle.bits.specs.declared.Bits.{Bits}
use Rattle.bits.proofs.Laws.{bit-same}
use Rattle.rules.specs.Trees.{Tree}
use Rattle.answers.specs.Qualify.{Qualifies}
use Rattle.drafts.specs.Steps.{State}
use Rattle.engine.specs.Asking.{TellsSet, TellsWhether}
use Rattle.engine.specs.declared.refusal.Refusal.{Refusal}

decided_once : (P : Type 0) (a b : Bool) → Decides a P → Decides b P → b ≡ a
decided_once P true b d e = e.1 (d.0 refl)
decided_once P false true d e = sym (d.1 (e.0 refl))
decided_once P false false d e = refl

abbrev bits_of : ℕ → Bits
bits_of w = record { word = w }

pub set_told_once : (S : State) (slot : ℕ) (r q : Result Bits Refusal) → TellsSet S slot r → TellsSet S slot q → q ≡ r
set_told_once S slot (Ok a) (Ok b) d e =
    let same : e.1.0 ≡ d.1.0 = cc in
    let words : b.word ≡ a.word =
    bit-same b.word a.word
    (λ i. decided_once (Qualifies S.facts d.1.0 i) (bit a.word i) (bit b.word i) (d.1.2 i)
    (subst (λ (t : Tree). Decides (bit b.word i) (Qualifies S.facts t i)) same (e.1.2 i))) in
    ap (λ (w : ℕ). Ok (bits_of w)) words
set_told_once S slot (Ok a) (Err w) d e = cc
set_told_once S slot (Err w) (Ok b) d e = cc
set_told_once S slot (Err w) (Err v) d e = cc

pub whether_told_once : (S : State) (slot actor : ℕ) (r q : Result Bool Refusal) → TellsWhether S slot actor r → TellsWhether S slot actor q → q ≡ r
whether_told_once S slot actor (Ok a) (Ok b) d e =
    let same : e.1.0 ≡ d.1.0 = cc in
    ap Ok (decided_once (Qualifies S.facts d.1.0 actor) a b d.1.2 (subst (λ (t : Tree). Decides b (Qualifies S.facts t actor)) same e.1.2))
whether_told_once S slot actor (Ok a) (Err w) d e = cc
whether_told_once S slot actor (Err w) (Ok b) d e = cc
whether_told_once S slot actor (Err w) (Err v) d e = cc
