-- Every step that is accepted makes a sound model of a sound one.
use Rattle.std.proofs.Common.{◌≡◌, ℕ, ◌<◌, Bool, true, false, not, ◌&&◌, ◌||◌, eqb, ltb, None, Decides, Option}
use Rattle.std.proofs.lemmas.Bool.{not-false, and_parts, ltb-true}
use Rattle.model.specs.Facts.{Facts, placed}
use Rattle.drafts.specs.Grounds.{InPair, LinkCircle, RelinkCircle, JoinCircle, add_verdict, remove_verdict, link_verdict, unlink_verdict, relink_verdict, join_verdict, split_verdict, parting_verdict, long_refusal, entity_range, pair_range, pair_sort, hierarchy, ends_stand, lower_kind, upper_kind, side_of_kind}
use Rattle.drafts.specs.Joining.{joined}
use Rattle.drafts.specs.Shares.{SharesFit, parts_in}
use Rattle.drafts.specs.Splitting.{Parts, parted}
use Rattle.drafts.specs.declared.step.Step.TheVariants.{Add, Remove, Link, Unlink, Relink, Join, Split, PutRule, RemoveRule}
use Rattle.drafts.proofs.Verdicts.{passed}
use Rattle.effects.specs.Sound.{Sound, StepsStaySound}
use Rattle.effects.proofs.Accepted.{decided_out, first_passed, join_fits, split_fits}
use Rattle.effects.proofs.OneFact.{EndsAt, sound_added, sound_removed, sound_linked, sound_unlinked, ends_left}
use Rattle.effects.proofs.Settled.{sound_if_decided, sound_if_lowest, done_sound}
use Rattle.effects.proofs.Sound.{join_keeps_ends, join_makes_no_circle, split_keeps_ends, split_makes_no_circle}

-- ── ranges ──

kind_low : (kind n : ℕ) → not (entity_range kind n) ≡ false → kind < 3
kind_low kind n h = ltb-true kind 3 (and_parts (ltb kind 3) (ltb n 64) (not-false (entity_range kind n) h)).0

sort_of_pair : (s x y : ℕ) → pair_range s x y ≡ true → pair_sort s ≡ true
sort_of_pair s x y h = (and_parts (pair_sort s) (ltb x 64 && ltb y 64) h).0

ends_of : (F : Facts) (s x y : ℕ) → ends_stand F s x y ≡ true → EndsAt F s x y
ends_of F s x y h = and_parts (F (lower_kind s) x 0) (F (upper_kind s) y 0) h

module _ (F : Facts) (w : Sound F) where
  -- ── entities and pairs ──

  add-sound : (kind n : ℕ) → add_verdict F kind n ≡ None → Sound (placed F kind n 0 true)
  add-sound kind n v =
      let p = passed (not (entity_range kind n)) _ _ v in
      sound_added F w kind n (kind_low kind n p.0)

  remove-sound : (kind n : ℕ) (paired : Bool) → Decides paired (InPair F kind n) → remove_verdict F kind n paired ≡ None → Sound (placed F kind n 0 false)
  remove-sound kind n paired d v =
      let p = passed (not (entity_range kind n)) _ _ v in
      let q = passed (not (F kind n 0)) _ _ p.1 in
      let r = passed paired _ _ q.1 in
      sound_removed F w kind n (kind_low kind n p.0) (decided_out (InPair F kind n) paired d r.0)

  link-sound : (s x y : ℕ) (circle : Bool) → Decides circle (LinkCircle F s x y) → link_verdict F s x y circle ≡ None → Sound (placed F s x y true)
  link-sound s x y circle d v =
      let p = passed (not (pair_range s x y)) _ _ v in
      let q = passed (hierarchy s && eqb x y) _ _ p.1 in
      let r = passed (not (ends_stand F s x y)) _ _ q.1 in
      let t = passed (F s x y) _ _ r.1 in
      let u = passed circle _ _ t.1 in
      sound_linked F w s x y (ends_of F s x y (not-false (ends_stand F s x y) r.0)) (decided_out (LinkCircle F s x y) circle d u.0)

  unlink-sound : (s x y : ℕ) → unlink_verdict F s x y ≡ None → Sound (placed F s x y false)
  unlink-sound s x y v =
      let p = passed (not (pair_range s x y)) _ _ v in
      sound_unlinked F w s x y (sort_of_pair s x y (not-false (pair_range s x y) p.0))

  relink-sound : (s x y z : ℕ) (circle : Bool) → Decides circle (RelinkCircle F s x y z) → relink_verdict F s x y z circle ≡ None
      → Sound (placed (placed F s x y false) s x z true)
  relink-sound s x y z circle d v =
      let p = passed (not (pair_range s x y && pair_range s x z)) _ _ v in
      let q = passed (eqb y z || (hierarchy s && eqb x z)) _ _ p.1 in
      let r = passed (not (ends_stand F s x y && F (upper_kind s) z 0)) _ _ q.1 in
      let t = passed (F s x z) _ _ r.1 in
      let u = passed (not (F s x y)) _ _ t.1 in
      let c = passed circle _ _ u.1 in
      let in_range = and_parts (pair_range s x y) (pair_range s x z) (not-false (pair_range s x y && pair_range s x z) p.0) in
      let g = sort_of_pair s x y in_range.0 in
      let stand = and_parts (ends_stand F s x y) (F (upper_kind s) z 0) (not-false (ends_stand F s x y && F (upper_kind s) z 0) r.0) in
      let low = ends_of F s x y stand.0 in
      sound_linked (placed F s x y false) (sound_unlinked F w s x y g) s x z
      (ends_left F w s x y false g s x z (low.0, stand.1))
      (decided_out (RelinkCircle F s x y z) circle d c.0)

  -- ── joining and splitting ──

  join-sound : (kind e f n : ℕ) (circle : Bool) → Decides circle (JoinCircle F kind e f n) → join_verdict F kind e f n circle ≡ None
      → Sound (joined (side_of_kind kind) e f n F)
  join-sound kind e f n circle d v = record {
    ends = join_keeps_ends F (side_of_kind kind) e f n w.ends;
    circles = join_makes_no_circle F (side_of_kind kind) e f n w.circles (join_fits F kind e f n circle d v);
  }

  split-sound : (kind : ℕ) (D : Parts) (shares : Bool) (long : Option ℕ) → Decides shares (SharesFit F (side_of_kind kind) D)
      → split_verdict F kind D.whole D.part1 D.part2 shares long ≡ None → Sound (parted (side_of_kind kind) D F)
  split-sound kind D shares long d v =
      let fits = split_fits F kind D shares d (first_passed (parting_verdict F kind D.whole D.part1 D.part2 shares) (long_refusal long) v) in
      record {
        ends = split_keeps_ends F (side_of_kind kind) D w.ends (w.circles (side_of_kind kind)) fits;
        circles = split_makes_no_circle F (side_of_kind kind) D w.ends w.circles fits;
      }

-- ── every step ──

pub steps_stay_sound : StepsStaySound
steps_stay_sound (Add e) S T r d w = done_sound _ S _ r T w (add-sound S.facts w e.kind e.number) d
steps_stay_sound (Remove e) S T r d w =
    sound_if_decided (InPair S.facts e.kind e.number) T.facts
    (λ c g. done_sound _ S _ r T w (remove-sound S.facts w e.kind e.number c g) (d c g))
steps_stay_sound (Link p) S T r d w =
    sound_if_decided (LinkCircle S.facts p.sort p.x p.y) T.facts
    (λ c g. done_sound _ S _ r T w (link-sound S.facts w p.sort p.x p.y c g) (d c g))
steps_stay_sound (Unlink p) S T r d w = done_sound _ S _ r T w (unlink-sound S.facts w p.sort p.x p.y) d
steps_stay_sound (Relink p) S T r d w =
    sound_if_decided (RelinkCircle S.facts p.sort p.x p.y p.z) T.facts
    (λ c g. done_sound _ S _ r T w (relink-sound S.facts w p.sort p.x p.y p.z c g) (d c g))
steps_stay_sound (Join j) S T r d w =
    sound_if_decided (JoinCircle S.facts j.kind j.first j.second j.into) T.facts
    (λ c g. done_sound _ S _ r T w (join-sound S.facts w j.kind j.first j.second j.into c g) (d c g))
steps_stay_sound (Split p) S T r d w =
    sound_if_decided (SharesFit S.facts (side_of_kind p.kind) (parts_in p)) T.facts
    (λ c g.
    sound_if_lowest (side_of_kind p.kind) (parts_in p) S.slots T.facts
    (λ long l. done_sound _ S _ r T w (split-sound S.facts w p.kind (parts_in p) c long g) (d c long g l)))
steps_stay_sound (PutRule slot list) S T r d w = done_sound _ S _ r T w (λ _. w) d
steps_stay_sound (RemoveRule slot) S T r d w = done_sound _ S _ r T w (λ _. w) d
