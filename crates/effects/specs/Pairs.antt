-- Which pairs are held after a join, and after a split.
use Rattle.std.specs.Prelude.{◌≡◌, ℕ, Bool, true, cond, ◌||◌, ◌≢◌, ◌⊎◌, ◌↔◌, ◌==◌}
use Rattle.model.specs.Facts.{Facts}
use Rattle.model.specs.Sides.{has, under}
use Rattle.model.specs.declared.side.Side.{Side}
use Rattle.rules.specs.Edits.{renamed}
use Rattle.answers.specs.Qualify.{EndsStand}
use Rattle.drafts.specs.Joining.{joined}
use Rattle.drafts.specs.Splitting.{Parts, parted}
use Rattle.effects.specs.Fits.{JoinFits, SplitFits}

-- ── joining e and f into n ──

-- The actor had something that is now y.
abbrev pub HadRenamed : (e f n : ℕ) (had : ℕ → ℕ → Bool) → ℕ → ℕ → Type 0
HadRenamed e f n had a y = (v : ℕ) × (had a v ≡ true) × (renamed e f n v ≡ y)

-- Something that is now x was directly below something that is now y, and x and y are two.
abbrev pub WasUnderRenamed : (e f n : ℕ) (was_under : ℕ → ℕ → Bool) → ℕ → ℕ → Type 0
WasUnderRenamed e f n was_under x y =
    (u : ℕ) × (v : ℕ) × (was_under u v ≡ true) × (renamed e f n u ≡ x) × (renamed e f n v ≡ y) × (x ≢ y)

-- After a join an actor has, or belongs to, y exactly if it had something that is now y.
abbrev pub JoinedHas : Type 0
JoinedHas =
    (F : Facts) (k : Side) (e f n : ℕ) → EndsStand F → JoinFits F k e f n
    → (a y : ℕ) → (has (joined k e f n F) k a y ≡ true) ↔ HadRenamed e f n (has F k) a y

-- After a join x is directly below y exactly if something that is now x was directly below something that is now y, and x and y are two.
abbrev pub JoinedUnder : Type 0
JoinedUnder =
    (F : Facts) (k : Side) (e f n : ℕ) → EndsStand F → JoinFits F k e f n
    → (x y : ℕ) → (under (joined k e f n F) k x y ≡ true) ↔ WasUnderRenamed e f n (under F k) x y

-- ── splitting the whole into two parts ──

-- Actor a is in the share of part y, or it had y and y is not the whole.
abbrev pub HasShare : (D : Parts) (had : ℕ → ℕ → Bool) → ℕ → ℕ → Type 0
HasShare D had a y =
    (((y ≡ D.part1) × (D.actors1 a ≡ true)) ⊎ ((y ≡ D.part2) × (D.actors2 a ≡ true))) ⊎ ((y ≢ D.whole) × (had a y ≡ true))

-- x is a part and the whole was directly below y, or x is in the share of part y, or x was directly below y and neither is the whole.
abbrev pub UnderShare : (D : Parts) (was_under : ℕ → ℕ → Bool) → ℕ → ℕ → Type 0
UnderShare D was_under x y =
    (((((x ≡ D.part1) ⊎ (x ≡ D.part2)) × (was_under D.whole y ≡ true)) ⊎ ((y ≡ D.part1) × (D.below1 x ≡ true)))
    ⊎ ((y ≡ D.part2) × (D.below2 x ≡ true)))
    ⊎ ((x ≢ D.whole) × ((y ≢ D.whole) × (was_under x y ≡ true)))

-- After a split an actor has, or belongs to, y exactly by its share or as before.
abbrev pub PartedHas : Type 0
PartedHas = (F : Facts) (k : Side) (D : Parts) (a y : ℕ) → (has (parted k D F) k a y ≡ true) ↔ HasShare D (has F k) a y

-- After a split x is directly below y exactly as a part, by its share or as before.
abbrev pub PartedUnder : Type 0
PartedUnder = (F : Facts) (k : Side) (D : Parts) (x y : ℕ) → (under (parted k D F) k x y ≡ true) ↔ UnderShare D (under F k) x y

-- What x was before the split: a part was the whole.
abbrev pub whole_of : Parts → ℕ → ℕ
whole_of D x = cond (x == D.part1 || x == D.part2) D.whole x

-- Whatever an actor has after a split, it had what that was before.
abbrev pub HasBack : Type 0
HasBack =
    (F : Facts) (k : Side) (D : Parts) → EndsStand F → SplitFits F k D
    → (a y : ℕ) → has (parted k D F) k a y ≡ true → has F k a (whole_of D y) ≡ true

-- If x is directly below y after a split, what x was was directly below what y was.
abbrev pub UnderBack : Type 0
UnderBack =
    (F : Facts) (k : Side) (D : Parts) → EndsStand F → SplitFits F k D
    → (x y : ℕ) → under (parted k D F) k x y ≡ true → under F k (whole_of D x) (whole_of D y) ≡ true

-- Whatever an actor had, it has after a split something that was that before.
abbrev pub HasOnto : Type 0
HasOnto =
    (F : Facts) (k : Side) (D : Parts) → EndsStand F → SplitFits F k D
    → (a y : ℕ) → has F k a y ≡ true → (v : ℕ) × (has (parted k D F) k a v ≡ true) × (whole_of D v ≡ y)

-- If x was directly below y, then after a split something that was x is directly below something that was y.
abbrev pub UnderOnto : Type 0
UnderOnto =
    (F : Facts) (k : Side) (D : Parts) → EndsStand F → SplitFits F k D
    → (x y : ℕ) → under F k x y ≡ true → (u : ℕ) × (v : ℕ) × (under (parted k D F) k u v ≡ true) × (whole_of D u ≡ x) × (whole_of D v ≡ y)
