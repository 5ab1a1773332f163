use Rattle.std.proofs.Common.{true, ◌||◌, ltb, refl, sym, ◌∙◌, arith}
use Rattle.std.proofs.lemmas.Bool.{and_from, and_right, or_left, or_from, le-ltb}
use Rattle.model.specs.Facts.{possible}
use Rattle.model.specs.Sizes.{size}
use Rattle.model.proofs.Sets.{placed-idle}
use Rattle.list.specs.Words.{listed, room}
use Rattle.list.proofs.Moves.{sought, put_made}
use Rattle.list.proofs.store.FactListStore.put.Goals as goal

pub returns-then-is_some-clause-answer : goal.returns-then-is_some-clause-answer
returns-then-is_some-clause-answer c =
    let k = sought c.args.self.now c.in-Ok.fact c.args.fact c.word-word.result c.place.result c.in-Ok.ensures c.word-word.ensures c.place.ensures in
    let S = listed c.args.self.now.words.now c.args.self.now.used in
    let f = c.args.fact in
    let room_left = ltb (size S) (room c.args.self.now.words.now) in
    sym (and_from (possible f.sort f.x f.y) (S f.sort f.x f.y || room_left) k.can (or_left (S f.sort f.x f.y) room_left (k.held ∙ sym c.if-is_some.ensures)))

pub returns-then-is_some-clause-set : goal.returns-then-is_some-clause-set
returns-then-is_some-clause-set c =
    let l = c.args.self.now in
    let f = c.args.fact in
    let k = sought l c.in-Ok.fact f c.word-word.result c.place.result c.in-Ok.ensures c.word-word.ensures c.place.ensures in
    placed-idle (listed l.words.now l.used) f.sort f.x f.y true (k.held ∙ sym c.if-is_some.ensures)

pub returns-then-is_some-clause-words : goal.returns-then-is_some-clause-words
returns-then-is_some-clause-words c =
    let k = sought c.args.self.now c.in-Ok.fact c.args.fact c.word-word.result c.place.result c.in-Ok.ensures c.word-word.ensures c.place.ensures in
    rw (k.held ∙ sym c.if-is_some.ensures) refl

pub returns-then-self-capacity-clause-answer : goal.returns-then-self-capacity-clause-answer
returns-then-self-capacity-clause-answer c =
    let l = c.args.self.now in
    let f = c.args.fact in
    let S = listed l.words.now l.used in
    let k = sought l c.in-Ok.fact f c.word-word.result c.place.result c.in-Ok.ensures c.word-word.ensures c.place.ensures in
    let counted = l.counted in
    let full = le-ltb (size S) (room l.words.now) (omega arith) in
    sym (and_right (possible f.sort f.x f.y) (S f.sort f.x f.y || ltb (size S) (room l.words.now))
    (or_from (S f.sort f.x f.y) (ltb (size S) (room l.words.now)) (k.held ∙ sym c.if-is_some.ensures) full))

pub invariant_of-self : goal.invariant_of-self
invariant_of-self c =
    let t = (put_made c.args.self.now c.in-Ok.fact c.args.fact c.word-word.result c.place.result c.in-Ok.ensures c.word-word.ensures c.place.ensures c.if-is_some.ensures (omega arith)).sound in
    record { within = t.within; apart = t.apart; facts = t.facts; rest = t.rest; counted = t.counted }

pub returns-clause-set : goal.returns-clause-set
returns-clause-set c =
    (put_made c.args.self.now c.in-Ok.fact c.args.fact c.word-word.result c.place.result c.in-Ok.ensures c.word-word.ensures c.place.ensures c.if-is_some.ensures (omega arith)).set_of

pub returns-clause-words : goal.returns-clause-words
returns-clause-words c =
    (put_made c.args.self.now c.in-Ok.fact c.args.fact c.word-word.result c.place.result c.in-Ok.ensures c.word-word.ensures c.place.ensures c.if-is_some.ensures (omega arith)).words
