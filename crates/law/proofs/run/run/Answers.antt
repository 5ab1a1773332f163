use Rattle.std.proofs.Common.{◌≡◌, ◌<◌, length, sym, refl, ap, ◌∙◌, subst, arith}
use Rattle.std.proofs.lemmas.List.{get_or_default}
use Rattle.transfer.specs.Contents.{writing, content}
use Rattle.engine.specs.Moments.{Moment}
use Rattle.engine.specs.Opening.{made}
use Rattle.engine.specs.Views.{moment}
use Rattle.law.specs.Orders.{Obeys}
use Rattle.law.specs.Ran.{obeyed}
use Rattle.law.specs.Scenes.{scene}
use Rattle.law.specs.declared.order.Order.{Order}
use Rattle.law.proofs.Extending.{no_order, one_more_order, all_obeyed}
use Rattle.law.proofs.run.run.Goals as goal

pub loop-i-init : goal.loop-i-init
loop-i-init g c = no_order _ _ _ _

pub loop-i-preserved : goal.loop-i-preserved
loop-i-preserved g c =
    let fits : c.loop-i.i < length c.loop-i.answers = omega (arith, c.min-n.ensures, c.loop-i.auto.answers, c.loop-i-test.true) in
    let there : c.loop-i.i < length c.args.orders.now = omega (arith, c.min-n.ensures, c.loop-i-test.true) in
    let before = scene g.S.Reading g.S.Store c.loop-i.engine c.loop-i.purse in
    let after = scene g.S.Reading g.S.Store c.obey.new.engine c.obey.new.purse in
    one_more_order {start = scene g.S.Reading g.S.Store c.new-engine.result c.args.purse.now} c.loop-i.invariant fits c.obey.result after
    (subst (λ (o : Order). Obeys (writing g.S.Store) o before c.obey.result after) (get_or_default c.args.orders.now c.loop-i.i _ _ there) c.obey.ensures)

pub returns : goal.returns
returns g c =
    let last : c.loop-i.i ≡ obeyed c.args.orders.now c.args.answers.now = omega (arith, c.min-n.ensures, c.loop-i.auto.i-end, c.loop-i-test.false) in
    let new = c.new-engine.ensures.made in
    let first = made (writing g.S.Store) (content g.S.Reading g.S.Store c.args.store) c.args.number in
    all_obeyed {first = moment g.S.Reading g.S.Store c.new-engine.result} {purse = c.args.purse.now} first c.loop-i.invariant last new
    (record { facts = sym (ap (λ (m : Moment). m.store.facts) new) ∙ c.new-engine.ensures.empty; book = λ slot. refl; change = refl })
