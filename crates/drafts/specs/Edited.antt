-- A rule that a change edits where the edited rule does not get too long.
use Rattle.std.specs.Prelude.{Bool, cond}
use Rattle.rules.specs.Trees.{Tree}

-- The edited rule, or the rule as it was where the edited one would get too long.
abbrev pub unless_too_long : (Tree → Bool) → (Tree → Tree) → Tree → Tree
unless_too_long long edit t = cond (long t) t (edit t)
