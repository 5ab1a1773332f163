-- Slots that are alike.
use Rattle.std.proofs.Common.{◌≡◌, Some, None, Option, refl}
use Rattle.rules.specs.Trees.{Tree}
use Rattle.drafts.specs.Slots.{edited}
use Rattle.law.specs.People.{Alike}

pub alike_self : (P : Tree → Tree → Type 0) (o : Option Tree) → ((t : Tree) → P t t) → Alike P o o
alike_self P None each = tt
alike_self P (Some t) each = each t

pub alike_then : (P Q R : Tree → Tree → Type 0) (o p q : Option Tree) → ((t u v : Tree) → P t u → Q u v → R t v) → Alike P o p → Alike Q p q → Alike R o q
alike_then P Q R None None None join f g = tt
alike_then P Q R None None (Some v) join f g = absurd g
alike_then P Q R None (Some u) None join f g = absurd f
alike_then P Q R None (Some u) (Some v) join f g = absurd f
alike_then P Q R (Some t) None None join f g = absurd f
alike_then P Q R (Some t) None (Some v) join f g = absurd f
alike_then P Q R (Some t) (Some u) None join f g = absurd g
alike_then P Q R (Some t) (Some u) (Some v) join f g = join t u v f g

-- an edited slot is alike if its rule and the edited one are
pub alike_edited : (P : Tree → Tree → Type 0) (edit : Tree → Tree) (o : Option Tree) → ((t : Tree) → o ≡ Some t → P t (edit t)) → Alike P o (edited edit o)
alike_edited P edit None each = tt
alike_edited P edit (Some t) each = each t refl

-- the rule in an edited slot is an edited rule
pub edited_from : (edit : Tree → Tree) (o : Option Tree) (u : Tree) → edited edit o ≡ Some u → (t : Tree) × (o ≡ Some t) × (edit t ≡ u)
edited_from edit None u e = absurd cc
edited_from edit (Some t) u e = (t, refl, cc)
