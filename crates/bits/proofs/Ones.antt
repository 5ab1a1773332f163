-- The ones of a word are the numbers in its set.
use Rattle.std.proofs.Common.{◌≡◌, ℕ, zero, suc, ◌+◌, ◌*◌, ◌/◌, ◌%◌, ◌^◌, ◌<◌, true, false, eqb, sym, ap, ◌∙◌, ap₂, ⊎_elim, pow-suc, arith}
use lib.Arith.{lt-one}
use lib.Count.{ones, ones_step}
use Rattle.std.proofs.lemmas.Bool.{eqb-true, eqb-false, cases_Bool}
use Rattle.bits.specs.Bit.{bit}
use Rattle.bits.specs.Total.{total, unit, tally}
use Rattle.bits.proofs.Laws.{bit_low, bit_half}
use Rattle.bits.proofs.Totals.{total-same, total_front}

low_unit : (w : ℕ) → w % 2 ≡ unit (bit w 0)
low_unit w =
    ⊎_elim
    (λ (e : eqb (w % 2) 1 ≡ true). eqb-true (w % 2) 1 e ∙ sym (ap unit (bit_low w ∙ e)))
    (λ (e : eqb (w % 2) 1 ≡ false). let n = eqb-false (w % 2) 1 e in let z : w % 2 ≡ 0 = omega arith in z ∙ sym (ap unit (bit_low w ∙ e)))
    (cases_Bool (eqb (w % 2) 1))

pub ones_tally : (n w : ℕ) → w < 2 ^ n → ones w ≡ tally (bit w) n
unfolding ones total
ones_tally zero w h = ap ones (lt-one h)
ones_tally (suc n) w h =
    let half : w / 2 < 2 ^ n = let g : w < 2 ^ n * 2 = rw pow-suc at h in omega arith in
    ones_step w
    ∙ ap₂ ◌+◌ (low_unit w)
    (ones_tally n (w / 2) half ∙ total-same (λ k. unit (bit (w / 2) k)) (λ k. unit (bit w (suc k))) n (λ k _. ap unit (bit_half w k)))
    ∙ sym (total_front (λ k. unit (bit w k)) n)
