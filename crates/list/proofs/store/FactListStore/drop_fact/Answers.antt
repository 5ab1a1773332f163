use Rattle.std.proofs.Common.{false, refl, is_some, ap, ◌∙◌}
use Rattle.model.proofs.Sets.{placed-idle}
use Rattle.list.specs.Words.{listed}
use Rattle.list.proofs.Listings.{listed-not}
use Rattle.list.proofs.Moves.{sought, drop_made}
use Rattle.list.proofs.store.FactListStore.drop_fact.Goals as goal

pub invariant_of-self : goal.invariant_of-self
invariant_of-self c =
    let t = (drop_made c.args.self.now c.in-Ok.fact c.args.fact c.word.result c.in-Some.i c.in-Ok.ensures c.word.ensures c.in-Some.ensures).sound in
    record { within = t.within; apart = t.apart; facts = t.facts; rest = t.rest; counted = t.counted }

pub returns-in-Some-clause-set : goal.returns-in-Some-clause-set
returns-in-Some-clause-set c =
    (drop_made c.args.self.now c.in-Ok.fact c.args.fact c.word.result c.in-Some.i c.in-Ok.ensures c.word.ensures c.in-Some.ensures).set_of

pub returns-in-Some-clause-words : goal.returns-in-Some-clause-words
returns-in-Some-clause-words c =
    (drop_made c.args.self.now c.in-Ok.fact c.args.fact c.word.result c.in-Some.i c.in-Ok.ensures c.word.ensures c.in-Some.ensures).words

pub returns-in_default-clause-set : goal.returns-in_default-clause-set
returns-in_default-clause-set c =
    let l = c.args.self.now in
    let f = c.args.fact in
    placed-idle (listed l.words.now l.used) f.sort f.x f.y false (listed-not l.words.now l.used f.sort f.x f.y c.in_default.ensures)

pub returns-in_default-clause-words : goal.returns-in_default-clause-words
returns-in_default-clause-words c =
    let l = c.args.self.now in
    let f = c.args.fact in
    let out = listed-not l.words.now l.used f.sort f.x f.y c.in_default.ensures in
    rw out refl

pub returns-in_default-place-clause-set : goal.returns-in_default-place-clause-set
returns-in_default-place-clause-set c =
    let l = c.args.self.now in
    let f = c.args.fact in
    let k = sought l c.in-Ok.fact f c.word.result c.place.result c.in-Ok.ensures c.word.ensures c.place.ensures in
    placed-idle (listed l.words.now l.used) f.sort f.x f.y false (k.held ∙ ap is_some c.in_default-place.is)

pub returns-in_default-place-clause-words : goal.returns-in_default-place-clause-words
returns-in_default-place-clause-words c =
    let k = sought c.args.self.now c.in-Ok.fact c.args.fact c.word.result c.place.result c.in-Ok.ensures c.word.ensures c.place.ensures in
    rw (k.held ∙ ap is_some c.in_default-place.is) refl
