use Rattle.std.proofs.Common.{◌≡◌, true, false, rules}
use Rattle.std.proofs.lemmas.Iterator.{first_from_Range}
use Rattle.drafts.specs.Parts.{parts_of}
use Rattle.drafts.specs.Shares.{too_long}
use Rattle.drafts.specs.Slots.{slots_of}
use Rattle.drafts.proofs.BookSlots.{no_rule_past}
use Rattle.drafts.proofs.Longest.{lowest_found}
use Rattle.drafts.proofs.splits.long_slot.Goals as goal

pub returns : goal.returns
returns c =
    let s = c.args.split.now in
    let k = s.splitting.side in
    let B = slots_of c.args.book.now in
    lowest_found k (parts_of s) B 32 (no_rule_past c.args.book.now) c.find.result
    (first_from_Range _ _ _ c.find.result (λ i. too_long k (parts_of s) (B i) ≡ true) (λ i. too_long k (parts_of s) (B i) ≡ false) c.find.ensures.ran
    (λ x q h. search rules) (λ x q h. search rules))
