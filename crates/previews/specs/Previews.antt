-- What a preview tells: a rule's people as they would be, against those of the released rule.
use Rattle.std.specs.Prelude.{◌≡◌, ℕ, pos, negsuc, ◌-ℤ◌, ◌≤ℤ◌, Decides}
use Rattle.bits.specs.Bit.{bit}
use Rattle.bits.specs.Total.{tally}
use Rattle.bits.specs.declared.Bits.{Bits}
use Rattle.model.specs.Facts.{Facts}
use Rattle.rules.specs.Trees.{Tree}
use Rattle.answers.specs.Qualify.{Qualifies}
use Rattle.answers.specs.Validity.{Somebody}
use Rattle.previews.specs.Effects.{EffectOf}
use Rattle.previews.specs.declared.preview.Preview.{Preview}

-- The set says of every actor whether it qualifies for the rule.
abbrev pub PeopleOf : Facts → Tree → Bits → Type 0
PeopleOf F t set = (a : ℕ) → Decides (bit set.word a) (Qualifies F t a)

-- How many are in the set.
abbrev pub head_count : Bits → ℕ
head_count set = tally (bit set.word) 64

-- Rule t in the model G, previewed against rule u in the model F.
pub record Previewed (G : Facts) (t : Tree) (F : Facts) (u : Tree) (p : Preview) : Type 0 where
  pub people : PeopleOf G t p.set
  pub effect : EffectOf (Qualifies G t) (Qualifies F u) p.effect
  -- the people of u in F
  pub released : Bits
  pub were : PeopleOf F u released
  pub difference : p.difference ≡ pos (head_count p.set) -ℤ pos (head_count released)
  -- from −64; to 63 where somebody qualifies for u in F, as for every valid rule
  pub least : negsuc 63 ≤ℤ p.difference
  pub most : Somebody F u → p.difference ≤ℤ pos 63
