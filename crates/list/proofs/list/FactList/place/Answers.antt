use Rattle.std.proofs.Common.{◌≡◌, take, arith, rules, tests}
use Rattle.std.proofs.lemmas.Iterator.{IsFirst-from_position, YieldsList-from_slice}
use Rattle.list.proofs.Places.{place_among}
use Rattle.list.proofs.list.FactList.place.Goals as goal

pub returns : goal.returns
returns c =
    let ws = c.args.self.now.words.now in
    let n = c.args.self.now.used in
    let w = c.args.word in
    place_among ws n w c.position.result (omega arith)
    (IsFirst-from_position _ _ c.position.result (λ v. v ≡ w) (λ v. v ≡ w → ⊥) c.position.ensures.ran (YieldsList-from_slice (take n ws) c.iter.ensures.rest)
    (λ x q k. search (rules, tests)) (λ x q k. search (rules, tests)))
