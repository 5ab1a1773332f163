use Rattle.std.proofs.Common.{◌^◌, ◌<◌, arith, rules}
use Rattle.std.proofs.lemmas.Int.{ints}
use Rattle.previews.proofs.Heads.{most_heads, some-heads}
use Rattle.previews.proofs.Told.{effect-told}
use Rattle.previews.proofs.preview.compare.Goals as goal

pub returns : goal.returns
returns g c =
    let old = c.who-released.result.word in
    let many = c.count.ensures in
    let many_old = c.count-2.ensures in
    let most = most_heads c.who-set.result.word in
    let most_old = most_heads old in
    record {
      people = c.who-set.ensures;
      effect = effect-told _ _ _ _ c.who-set.ensures c.who-released.ensures _ c.between.ensures;
      released = c.who-released.result;
      were = c.who-released.ensures;
      difference = omega (arith, ints);
      least = omega (arith, ints);
      most = λ s.
          let fits : old < 2 ^ 64 = search rules in
          let some = some-heads old s.0 fits ((c.who-released.ensures s.0).1 s.1) in
          omega (arith, ints);
    }
