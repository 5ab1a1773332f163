use Rattle.std.proofs.Common.{◌≡◌, ◌+◌, length, ap, ◌∙◌, arith}
use Rattle.std.proofs.lemmas.Bool.{cond-true, lt-ltb}
use Rattle.rules.specs.Books.{slot_rule}
use Rattle.rules.specs.Filled.{held_from}
use Rattle.rules.proofs.Slots.{same_filled}
use Rattle.rules.proofs.book.Book.filled.Goals as goal

pub returns : goal.returns
returns c =
    let book = c.args.self.now in
    let long : length book.slots ≡ 32 = omega arith in
    same_filled (slot_rule book) 0 book.slots (λ k l. let e : 0 + k ≡ k = omega arith in ap (slot_rule book) e ∙ cond-true _ _ _ (lt-ltb k 32 (omega arith)))
    ∙ ap (held_from (slot_rule book) 0) long
