-- Whether there can be a fact.
use Rattle.std.specs.Prelude.{◌≡◌, false, Result, MatchResult}
use Rattle.model.specs.Facts.{possible}
use Rattle.model.specs.declared.fact.Fact.{Fact}
use Rattle.model.specs.declared.possible_fact.PossibleFact.{PossibleFact}
use Rattle.model.specs.declared.possible_fact.Impossible.{Impossible}

-- The fact as a possible one, or nothing exactly where it is not possible.
abbrev pub IfPossible : Fact → Result PossibleFact Impossible → Type 0
IfPossible f r = MatchResult r (λ p. p.fact ≡ f) (λ _. possible f.sort f.x f.y ≡ false)
