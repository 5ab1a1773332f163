use Rattle.std.proofs.Common.{◌≡◌, Bool, Decides, true, false, rules, sym, ◌∙◌, subst}
use Rattle.std.proofs.lemmas.Iterator.{cases_from_any}
use Rattle.std.proofs.lemmas.Iterator.Consumers.{YieldsList-from_first}
use Rattle.bits.specs.Members.{members}
use Rattle.model.specs.Sides.{has}
use Rattle.answers.specs.Qualify.{Reaches}
use Rattle.answers.proofs.Members.{any_in_set}
use Rattle.answers.proofs.Reached.{asked_all}
use Rattle.answers.proofs.one.One.is_member.Goals as goal

pub returns-then-plus : goal.returns-then-plus
returns-then-plus g c =
    let F = g.R.Reading.held c.args.self.now.reading.now in
    let k = c.args.side in
    let a = c.args.self.now.actor in
    let n = c.args.number in
    let w = c.all_below.result.word in
    let r = c.any.result in
    subst (λ (b : Bool). Decides r (Reaches F k n b a)) (sym c.if-plus.true)
    (asked_all F k n (g.met.R.Reading.only_possible c.args.self.now.reading.now) w c.all_below.ensures a r (sym c.has.ensures ∙ c.if-has.false)
    (any_in_set r w (λ x. has F k a x ≡ true) (λ x. has F k a x ≡ false)
    (cases_from_any c.any.new.self _ r (λ x. has F k a x ≡ true) (λ x. has F k a x ≡ false) c.any.ensures.ran
    (YieldsList-from_first (λ x. x) (λ s. members s.rest.word) (members w) c.into_iter.ensures.into_iter_gives)
    (λ x q h. search rules) (λ x q h. search rules))))
