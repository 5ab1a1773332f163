-- The grounds that the input shows go first in every verdict.
use Rattle.std.proofs.Common.{◌≡◌, ℕ, Bool, true, false, not, ◌&&◌, ◌||◌, eqb, ltb, Some, None, Option, ap, ◌∙◌, arith}
use Rattle.drafts.specs.Grounds.{InPair, LinkCircle, RelinkCircle, JoinCircle, refused_if, first_of, long_refusal, entity_range, pair_range, group_range, hierarchy, side_of_kind}
use Rattle.drafts.specs.Outcomes.{answered}
use Rattle.drafts.specs.Shares.{SharesFit, parts_in}
use Rattle.drafts.specs.declared.refusal.Refusal.{Refusal}
use Rattle.drafts.specs.declared.refusal.Refusal.TheVariants.{Range, Same}
use Rattle.drafts.specs.declared.step.Step.TheVariants.{Add, Remove, Link, Unlink, Relink, Join, Split, PutRule, RemoveRule}
use Rattle.effects.specs.First.{InputsGoFirst}
use Rattle.effects.proofs.Settled.{either_decision, some-lowest}

-- a ground that refuses does so whatever is below it
stays : (b : Bool) (v w : Refusal) (rest : Option Refusal) → refused_if b v None ≡ Some w → refused_if b v rest ≡ Some w
stays true v w rest e = e
stays false v w rest e = let z : ◌≡◌ {A = ℕ} 0 1 = cc in absurd (omega arith)

-- and so do two
both_stay : (a b : Bool) (u v w : Refusal) (rest : Option Refusal) → refused_if a u (refused_if b v None) ≡ Some w → refused_if a u (refused_if b v rest) ≡ Some w
both_stay true b u v w rest e = e
both_stay false b u v w rest e = stays b v w rest e

pub inputs_go_first : InputsGoFirst
inputs_go_first (Add e) S T r w h d other = other (d.answer ∙ ap answered (stays (not (entity_range e.kind e.number)) (Range 255) w _ h))
inputs_go_first (Remove e) S T r w h d other =
    either_decision (InPair S.facts e.kind e.number) (λ c g. other ((d c g).answer ∙ ap answered (stays (not (entity_range e.kind e.number)) (Range 255) w _ h)))
inputs_go_first (Link p) S T r w h d other =
    either_decision (LinkCircle S.facts p.sort p.x p.y) (λ c g. other ((d c g).answer ∙ ap answered (both_stay (not (pair_range p.sort p.x p.y)) (hierarchy p.sort && eqb p.x p.y) (Range 255) Same w _ h)))
inputs_go_first (Unlink p) S T r w h d other = other (d.answer ∙ ap answered (stays (not (pair_range p.sort p.x p.y)) (Range 255) w _ h))
inputs_go_first (Relink p) S T r w h d other =
    either_decision (RelinkCircle S.facts p.sort p.x p.y p.z) (λ c g. other ((d c g).answer ∙ ap answered (both_stay (not (pair_range p.sort p.x p.y && pair_range p.sort p.x p.z)) (eqb p.y p.z || (hierarchy p.sort && eqb p.x p.z)) (Range 255) Same w _ h)))
inputs_go_first (Join j) S T r w h d other =
    either_decision (JoinCircle S.facts j.kind j.first j.second j.into) (λ c g. other ((d c g).answer ∙ ap answered (both_stay (not (group_range j.kind j.first j.second j.into)) (eqb j.first j.second) (Range 255) Same w _ h)))
inputs_go_first (Split p) S T r w h d other =
    either_decision (SharesFit S.facts (side_of_kind p.kind) (parts_in p))
    (λ c g.
    some-lowest (side_of_kind p.kind) (parts_in p) S.slots
    (λ long l. other ((d c long g l).answer ∙ ap answered (ap (λ (v : Option Refusal). first_of v (long_refusal long)) (both_stay (not (group_range p.kind p.whole p.part1 p.part2)) (eqb p.part1 p.part2) (Range 255) Same w _ h)))))
inputs_go_first (PutRule slot list) S T r w h d other = other (d.answer ∙ ap answered h)
inputs_go_first (RemoveRule slot) S T r w h d other = other (d.answer ∙ ap answered (stays (not (ltb slot 32)) (Range slot) w _ h))
