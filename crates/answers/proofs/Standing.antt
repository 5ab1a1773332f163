-- Who qualifies stands, and where the ends of pairs stand the pair alone decides.
use Rattle.std.proofs.Common.{◌≡◌, ℕ, true, ⊎_elim}
use Rattle.model.specs.Facts.{Facts}
use Rattle.model.specs.Sides.{actor_stands}
use Rattle.rules.specs.declared.node.Leaf.{Leaf}
use Rattle.rules.specs.declared.node.Leaf.TheVariants.{Actor, Group}
use Rattle.rules.specs.Trees.{is, isnt, both, either}
use Rattle.answers.specs.Qualify.{InLeaf, PairsSuffice, QualifiedStand}

leaf-stands : (F : Facts) (l : Leaf) (a : ℕ) → InLeaf F l a → actor_stands F a ≡ true
leaf-stands F (Actor b) a h = h.0
leaf-stands F (Group k r plus) a h = h.0

pub qualified_stand : QualifiedStand
qualified_stand F (is l) a h = leaf-stands F l a h
qualified_stand F (isnt l) a h = h.0
qualified_stand F (both s t) a h = qualified_stand F s a h.0
qualified_stand F (either s t) a h = ⊎_elim (qualified_stand F s a) (qualified_stand F t a) h

pub pairs_suffice : PairsSuffice
pairs_suffice F ends k r plus a = (
  λ h. h.1,
  λ h. (⊎_elim (λ e. ends.actor k a r e) (λ p. ends.actor k a p.1.0 p.1.1) h, h),
)
