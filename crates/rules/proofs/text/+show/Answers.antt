use Rattle.std.proofs.Common.{true, length, refl, ap, arith}
use Rattle.std.proofs.Output.{has_written_of_eq}
use Rattle.rules.proofs.Tops.{never_empty}
use Rattle.rules.proofs.Texts.{leaf_shown, not_shown, both_shown, either_shown, put_three}
use Rattle.rules.proofs.text.+show.Goals as goal

pub returns-in_default : goal.returns-in_default
returns-in_default g t c = λ u e p ok. never_empty u (omega (arith, ap length e, c.in_default.ensures.cases))

pub returns-in-Is : goal.returns-in-Is
returns-in-Is g t c = λ u e p ok.
    has_written_of_eq _ _ _ _ _ (leaf_shown u _ _ _ _ e c.in-Some.ensures.cases.0 c.if-parens.false c.in-Is.leaf c.in-Is.is) (c.write.ensures.writes p ok)

pub returns-in-Not : goal.returns-in-Not
returns-in-Not g t c = λ u e p ok.
    has_written_of_eq _ _ _ _ _ (not_shown u _ _ _ _ e c.in-Some.ensures.cases.0 c.if-parens.false c.in-Not.leaf c.in-Not.is) (c.write-in-Not.ensures.writes p ok)

pub returns-in_ok-write_str-in-And : goal.returns-in_ok-write_str-in-And
returns-in_ok-write_str-in-And g t c = λ u e p ok.
    let (a, b, left, right, text) =
    both_shown u _ _ _ _ e c.in-Some.ensures.cases.0 c.if-parens.false _ _ _ c.begin.ensures.begins c.split_at.ensures.front c.split_at.ensures.by_index.0 _ _
    c.is_compound.ensures c.in-And.is c.ends_in.ensures in
    let x = c.in_ok-show-in-And.ensures a left p (refl {a = true}) in
    let y = c.in_ok-write_str-in-And.ensures.writes x.plain (refl {a = true}) in
    put_three _ _ _ _ _ _ _ _ _ text x y (c.show-in-And-2.ensures b right y.plain ok)

pub returns-in_ok-write_str-in-Or : goal.returns-in_ok-write_str-in-Or
returns-in_ok-write_str-in-Or g t c = λ u e p ok.
    let (a, b, left, right, text) =
    either_shown u _ _ _ _ e c.in-Some.ensures.cases.0 c.if-parens.false _ _ _ c.begin.ensures.begins c.split_at.ensures.front c.split_at.ensures.by_index.0 _ _
    c.is_compound-in-Or.ensures c.in-Or.is c.ends_in-in-Or.ensures in
    let x = c.in_ok-show-in-Or.ensures a left p (refl {a = true}) in
    let y = c.in_ok-write_str-in-Or.ensures.writes x.plain (refl {a = true}) in
    put_three _ _ _ _ _ _ _ _ _ text x y (c.show-in-Or-2.ensures b right y.plain ok)
