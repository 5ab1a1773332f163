use Rattle.std.proofs.Common.{ℕ, sym, ap, ◌∙◌}
use Rattle.std.proofs.lemmas.Bool.{both_ways}
use Rattle.bits.specs.Bit.{bit}
use Rattle.bits.proofs.Laws.{bit-none, bit-some}
use Rattle.answers.proofs.Naming.{names_checked}
use Rattle.answers.proofs.validity.validity.Goals as goal

pub returns-then-is_empty : goal.returns-then-is_empty
returns-then-is_empty g c = (
  (names_checked (g.R.Reading.held c.args.reading.now) c.args.rule.now).0 (sym c.first_absent.ensures ∙ c.in_default.is),
  λ s. both_ways (bit c.who-set.result.word s.0) (c.is_empty.ensures.0 c.if-is_empty.true s.0) ((c.who-set.ensures s.0).1 s.1),
)

pub returns : goal.returns
returns g c =
    let w = c.who-set.result.word in
    let some = bit-some w (λ z. both_ways c.is_empty.result c.if-is_empty.false (c.is_empty.ensures.1 (λ k. ap (λ (x : ℕ). bit x k) z ∙ bit-none k))) in (
      record {
        names = (names_checked (g.R.Reading.held c.args.reading.now) c.args.rule.now).0 (sym c.first_absent.ensures ∙ c.in_default.is);
        somebody = (some.0, (c.who-set.ensures some.0).0 some.1);
      },
      c.who-set.ensures,
    )
