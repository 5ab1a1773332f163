use Rattle.std.proofs.Common.{sym, ◌∙◌, subst, arith, rules}
use Rattle.rules.proofs.Backwards.{Followed, before-leaf, before-operator, none_left}
use Rattle.rules.proofs.text.begin.Goals as goal

pub loop-wanted-preserved-then-is_operator : goal.loop-wanted-preserved-then-is_operator
loop-wanted-preserved-then-is_operator c =
    let e = c.in-Some.ensures.cases in (
      omega (arith, e.1),
      omega (arith, e.1),
      λ front t h. before-operator front c.in-Some.before.now c.in-Some.node.now c.loop-wanted.wanted (sym c.is_operator.ensures ∙ c.if-is_operator.true)
          c.loop-wanted-test.true (subst (Followed front c.loop-wanted.wanted) e.0 (c.loop-wanted.invariant.2 front t h)),
    )

pub loop-wanted-preserved : goal.loop-wanted-preserved
loop-wanted-preserved c =
    let e = c.in-Some.ensures.cases in (
      omega (arith, e.1),
      omega (arith, e.1),
      λ front t h. before-leaf front c.in-Some.before.now c.in-Some.node.now c.loop-wanted.wanted (sym c.is_operator.ensures ∙ c.if-is_operator.false)
          c.loop-wanted-test.true (subst (Followed front c.loop-wanted.wanted) e.0 (c.loop-wanted.invariant.2 front t h)),
    )

pub returns-in-loop-wanted-clause-begins : goal.returns-in-loop-wanted-clause-begins
returns-in-loop-wanted-clause-begins c = λ front t h.
    none_left front c.loop-wanted.rest.now c.loop-wanted.wanted (search rules) c.loop-wanted-test.true (c.loop-wanted.invariant.2 front t h)
