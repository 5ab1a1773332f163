-- Who qualifies for a rule.
use Rattle.std.specs.Prelude.{◌≡◌, ℕ, Bool, true, ◌⊎◌, ◌↔◌, Decides}
use Rattle.model.specs.Facts.{Facts}
use Rattle.model.specs.Sides.{actor_stands, stands, has, under}
use Rattle.model.specs.Chains.{Below}
use Rattle.model.specs.declared.side.Side.{Side}
use Rattle.rules.specs.declared.node.Leaf.{Leaf}
use Rattle.rules.specs.declared.node.Leaf.TheVariants.{Actor, Group}
use Rattle.rules.specs.Trees.{Tree, is, isnt, both, either}

-- Actor a has role r, or belongs to unit r; under (+), a may instead have or belong to something below r by any chain.
abbrev pub Reaches : Facts → Side → ℕ → Bool → ℕ → Type 0
Reaches F k r plus a = (has F k a r ≡ true) ⊎ ((plus ≡ true) × ((x : ℕ) × (has F k a x ≡ true) × Below F k x r))

-- Actor a is in the leaf's set. Only standing actors are.
abbrev pub InLeaf : Facts → Leaf → ℕ → Type 0
InLeaf F (Actor b) a = (actor_stands F a ≡ true) × (a ≡ b)
InLeaf F (Group k r plus) a = (actor_stands F a ≡ true) × Reaches F k r plus a

-- Actor a qualifies for the rule: NOT gives the standing actors outside the leaf's set, AND those in both, OR those in either.
abbrev pub Qualifies : Facts → Tree → ℕ → Type 0
Qualifies F (is l) a = InLeaf F l a
Qualifies F (isnt l) a = (actor_stands F a ≡ true) × (InLeaf F l a → ⊥)
Qualifies F (both s t) a = Qualifies F s a × Qualifies F t a
Qualifies F (either s t) a = Qualifies F s a ⊎ Qualifies F t a

-- The answer says of every actor asked about whether it qualifies.
abbrev pub Tells : Facts → Tree → (ℕ → Bool) → (ℕ → Bool) → Type 0
Tells F t asks isin = (a : ℕ) → asks a ≡ true → Decides (isin a) (Qualifies F t a)

-- The ends of every pair stand.
pub record EndsStand (F : Facts) : Type 0 where
  pub actor : (k : Side) (a y : ℕ) → has F k a y ≡ true → actor_stands F a ≡ true
  pub group : (k : Side) (a y : ℕ) → has F k a y ≡ true → stands F k y ≡ true
  pub lower : (k : Side) (x y : ℕ) → under F k x y ≡ true → stands F k x ≡ true
  pub upper : (k : Side) (x y : ℕ) → under F k x y ≡ true → stands F k y ≡ true

-- Where the ends of every pair stand, the pair alone decides: to ask that the actor stands too takes nobody from a leaf's set.
abbrev pub PairsSuffice : Type 0
PairsSuffice = (F : Facts) → EndsStand F → (k : Side) (r : ℕ) (plus : Bool) (a : ℕ) → InLeaf F (Group k r plus) a ↔ Reaches F k r plus a

-- Whoever qualifies stands.
abbrev pub QualifiedStand : Type 0
QualifiedStand = (F : Facts) (t : Tree) (a : ℕ) → Qualifies F t a → actor_stands F a ≡ true
