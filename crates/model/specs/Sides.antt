-- The facts of roles and of units, in words.
use Rattle.std.specs.Prelude.{◌≡◌, ◌≢◌, ℕ, Bool, List, Result, MatchResult, codes}
use Rattle.model.specs.Facts.{Facts}
use Rattle.model.specs.declared.side.Side.{Side}
use Rattle.model.specs.declared.side.NoSide.{NoSide}
use Rattle.model.specs.declared.side.Side.TheVariants.{Role, Unit}

-- The sort of the facts that say what stands.
abbrev pub stands_sort : Side → ℕ
stands_sort Role = 1
stands_sort Unit = 2

-- The sort of the pairs of an actor and the role that it has, or the unit that it belongs to.
abbrev pub has_sort : Side → ℕ
has_sort Role = 3
has_sort Unit = 4

-- The sort of the pairs of the hierarchy.
abbrev pub under_sort : Side → ℕ
under_sort Role = 5
under_sort Unit = 6

-- Actor a stands.
abbrev pub actor_stands : Facts → ℕ → Bool
actor_stands S a = S 0 a 0

-- Role or unit x stands.
abbrev pub stands : Facts → Side → ℕ → Bool
stands S k x = S (stands_sort k) x 0

-- Actor a has role y, or belongs to unit y.
abbrev pub has : Facts → Side → ℕ → ℕ → Bool
has S k a y = S (has_sort k) a y

-- Role or unit x is directly below y.
abbrev pub under : Facts → Side → ℕ → ℕ → Bool
under S k x y = S (under_sort k) x y

-- The name of a side.
abbrev pub side_text : Side → List ℕ
side_text Role = codes "Role"
side_text Unit = codes "Unit"

-- The side of the kind 1 or 2, or nothing exactly where the kind is another.
abbrev pub SideOfKind : ℕ → Result Side NoSide → Type 0
SideOfKind kind r = MatchResult r (λ k. stands_sort k ≡ kind) (λ _. (kind ≢ 1) × (kind ≢ 2))
