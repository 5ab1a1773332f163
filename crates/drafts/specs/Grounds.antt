-- Why a step is refused: the grounds of each step in their order. The first that applies gives the refusal.
use Rattle.std.specs.Prelude.{◌≡◌, ℕ, Bool, true, false, cond, not, ◌&&◌, ◌||◌, ◌⊎◌, Some, None, Option, ◌==◌, nat_le, nat_lt}
use Rattle.rules.specs.declared.fault.Fault.{Fault}
use Rattle.rules.specs.declared.fault.Fault.TheVariants.{Length, Field, Shape}
use Rattle.rules.specs.Trees.{Tree}
use Rattle.model.specs.Chains.{Circle as CircleIn}
use Rattle.model.specs.Facts.{Facts, placed}
use Rattle.model.specs.declared.side.Side.{Side}
use Rattle.model.specs.declared.side.Side.TheVariants.{Role, Unit}
use Rattle.drafts.specs.declared.refusal.Refusal.{Refusal}
use Rattle.drafts.specs.Joining.{joined}
use Rattle.drafts.specs.Slots.{Slots}
use Rattle.drafts.specs.declared.refusal.Refusal.TheVariants.{List as ListFault, Range, Same, Empty, Absent, Standing, Held, NotHeld, Paired, Circle, Shares, TooLong}

-- Refused so where the ground applies; otherwise the grounds below it decide.
abbrev pub refused_if : Bool → Refusal → Option Refusal → Option Refusal
refused_if applies w rest = cond applies (Some w) rest

-- The first refusal, or else the second.
abbrev pub first_of : Option Refusal → Option Refusal → Option Refusal
first_of None rest = rest
first_of (Some w) rest = Some w

abbrev pub long_refusal : Option ℕ → Option Refusal
long_refusal None = None
long_refusal (Some slot) = Some (TooLong slot)

-- A kind from 0 to 2 and a number from 0 to 63.
abbrev pub entity_range : ℕ → ℕ → Bool
entity_range kind number = nat_lt kind 3 && nat_lt number 64

-- The sort of a pair.
abbrev pub pair_sort : ℕ → Bool
pair_sort s = nat_le 3 s && nat_lt s 7

-- The sort of a pair of a hierarchy.
abbrev pub hierarchy : ℕ → Bool
hierarchy s = nat_le 5 s

-- The kind of the lower end of a pair: an actor has and belongs; roles and units are below one another.
abbrev pub lower_kind : ℕ → ℕ
lower_kind s = cond (nat_lt s 5) 0 (cond (s == 5) 1 2)

-- The kind of the upper end of a pair.
abbrev pub upper_kind : ℕ → ℕ
upper_kind s = cond (s == 3 || s == 5) 1 2

-- The side of a hierarchy's sort.
abbrev pub side_of_sort : ℕ → Side
side_of_sort s = cond (s == 5) Role Unit

-- The side of the kind 1 or 2.
abbrev pub side_of_kind : ℕ → Side
side_of_kind kind = cond (kind == 1) Role Unit

-- Both ends of the pair stand.
abbrev pub ends_stand : Facts → ℕ → ℕ → ℕ → Bool
ends_stand F s x y = F (lower_kind s) x 0 && F (upper_kind s) y 0

-- The entity is in a pair, at either end.
abbrev pub InPair : Facts → ℕ → ℕ → Type 0
InPair F kind n =
    (s : ℕ) × (x : ℕ) × (y : ℕ) × (pair_sort s ≡ true) × (F s x y ≡ true) × (((lower_kind s ≡ kind) × (x ≡ n)) ⊎ ((upper_kind s ≡ kind) × (y ≡ n)))

abbrev pub add_verdict : Facts → ℕ → ℕ → Option Refusal
add_verdict F kind n = refused_if (not (entity_range kind n)) (Range 255) (refused_if (F kind n 0) Standing None)

abbrev pub remove_verdict : Facts → ℕ → ℕ → (in_pair : Bool) → Option Refusal
remove_verdict F kind n in_pair =
    refused_if (not (entity_range kind n)) (Range 255) (refused_if (not (F kind n 0)) Absent (refused_if in_pair Paired None))

-- The sort and both numbers of a pair are in range.
abbrev pub pair_range : ℕ → ℕ → ℕ → Bool
pair_range s x y = pair_sort s && (nat_lt x 64 && nat_lt y 64)

-- With the pair put in, its hierarchy runs in a circle.
abbrev pub LinkCircle : Facts → ℕ → ℕ → ℕ → Type 0
LinkCircle F s x y = (hierarchy s ≡ true) × CircleIn (placed F s x y true) (side_of_sort s)

-- With the pair (x, y) become (x, z), its hierarchy runs in a circle.
abbrev pub RelinkCircle : Facts → ℕ → ℕ → ℕ → ℕ → Type 0
RelinkCircle F s x y z = (hierarchy s ≡ true) × CircleIn (placed (placed F s x y false) s x z true) (side_of_sort s)

abbrev pub link_verdict : Facts → ℕ → ℕ → ℕ → (circle : Bool) → Option Refusal
link_verdict F s x y circle =
    refused_if (not (pair_range s x y)) (Range 255)
    (refused_if (hierarchy s && x == y) Same
    (refused_if (not (ends_stand F s x y)) Absent
    (refused_if (F s x y) Held
    (refused_if circle Circle None))))

abbrev pub unlink_verdict : Facts → ℕ → ℕ → ℕ → Option Refusal
unlink_verdict F s x y =
    refused_if (not (pair_range s x y)) (Range 255) (refused_if (not (ends_stand F s x y)) Absent (refused_if (not (F s x y)) NotHeld None))

abbrev pub relink_verdict : Facts → ℕ → ℕ → ℕ → ℕ → (circle : Bool) → Option Refusal
relink_verdict F s x y z circle =
    refused_if (not (pair_range s x y && pair_range s x z)) (Range 255)
    (refused_if (y == z || (hierarchy s && x == z)) Same
    (refused_if (not (ends_stand F s x y && F (upper_kind s) z 0)) Absent
    (refused_if (F s x z) Held
    (refused_if (not (F s x y)) NotHeld
    (refused_if circle Circle None)))))

-- With the two joined, their hierarchy runs in a circle.
abbrev pub JoinCircle : Facts → ℕ → ℕ → ℕ → ℕ → Type 0
JoinCircle F kind e f n = CircleIn (joined (side_of_kind kind) e f n F) (side_of_kind kind)

-- The kind is 1 or 2.
abbrev pub group_kind : ℕ → Bool
group_kind kind = kind == 1 || kind == 2

-- The kind of roles or of units, and three numbers in range.
abbrev pub group_range : ℕ → ℕ → ℕ → ℕ → Bool
group_range kind x y z = group_kind kind && (nat_lt x 64 && (nat_lt y 64 && nat_lt z 64))

abbrev pub join_verdict : Facts → ℕ → ℕ → ℕ → ℕ → (circle : Bool) → Option Refusal
join_verdict F kind e f n circle =
    refused_if (not (group_range kind e f n)) (Range 255)
    (refused_if (e == f) Same
    (refused_if (not (F kind e 0 && F kind f 0)) Absent
    (refused_if (F kind n 0) Standing
    (refused_if circle Circle None))))

-- The grounds of a split that the model shows.
abbrev pub parting_verdict : Facts → ℕ → ℕ → ℕ → ℕ → (shares : Bool) → Option Refusal
parting_verdict F kind e n1 n2 shares =
    refused_if (not (group_range kind e n1 n2)) (Range 255)
    (refused_if (n1 == n2) Same
    (refused_if (not (F kind e 0)) Absent
    (refused_if (F kind n1 0 || F kind n2 0) Standing
    (refused_if (not shares) Shares None))))

-- The model's grounds, then the lowest slot whose rule would be too long.
abbrev pub split_verdict : Facts → ℕ → ℕ → ℕ → ℕ → (shares : Bool) (long : Option ℕ) → Option Refusal
split_verdict F kind e n1 n2 shares long = first_of (parting_verdict F kind e n1 n2 shares) (long_refusal long)

-- The number of the slot, then what the node list itself shows; a list with no nodes or too many goes first.
abbrev pub put_verdict : (slot : ℕ) (fault : Option Fault) → Option Refusal
put_verdict slot None = refused_if (not (nat_lt slot 32)) (Range slot) None
put_verdict slot (Some Length) = Some (ListFault slot Length)
put_verdict slot (Some (Field i)) = refused_if (not (nat_lt slot 32)) (Range slot) (Some (ListFault slot (Field i)))
put_verdict slot (Some (Shape i)) = refused_if (not (nat_lt slot 32)) (Range slot) (Some (ListFault slot (Shape i)))

-- The slot has no rule.
abbrev pub is_empty : Option Tree → Bool
is_empty None = true
is_empty (Some t) = false

abbrev pub clear_verdict : Slots → (slot : ℕ) → Option Refusal
clear_verdict B slot = refused_if (not (nat_lt slot 32)) (Range slot) (refused_if (is_empty (B slot)) (Empty slot) None)
