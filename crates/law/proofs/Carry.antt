-- What lists of steps keep.
use Rattle.std.proofs.Common.{◌≡◌, Ok, sym, subst}
use Rattle.rules.specs.Edits.{joined_rule}
use Rattle.answers.specs.Validity.{NamesStand}
use Rattle.drafts.specs.Grounds.{side_of_kind}
use Rattle.drafts.specs.Joining.{joined}
use Rattle.drafts.specs.Shares.{parts_in, parted_rule}
use Rattle.drafts.specs.Splitting.{parted}
use Rattle.drafts.specs.Slots.{each_edited}
use Rattle.drafts.specs.Steps.{State, Stepped}
use Rattle.drafts.specs.declared.step.Join.{Join}
use Rattle.drafts.specs.declared.step.Split.{Split}
use Rattle.drafts.specs.declared.step.Step.{Step}
use Rattle.drafts.specs.declared.step.Step.TheVariants as Made
use Rattle.effects.specs.Sound.{Sound}
use Rattle.effects.proofs.Accepted.{accepted_joins, accepted_splits}
use Rattle.effects.proofs.Growth.{join_grows}
use Rattle.effects.proofs.Naming.{join_keeps_kind, split_keeps_kind, join_keeps_names, split_keeps_names}
use Rattle.effects.proofs.SamePeople.{split_keeps_answers}
use Rattle.effects.proofs.Steps.{steps_stay_sound}
use Rattle.law.specs.Kinds.{AnyStep, IsSplit, IsSplitOrJoin}
use Rattle.law.specs.People.{SamePeople, NobodyLost, Drifted}
use Rattle.law.specs.Prepared.{Prepared, copied, stepped, Firm, StepsCarrySoundness, SplitsCarryPeople, JoinsCarryPeople}
use Rattle.law.proofs.Alike.{alike_self, alike_then, alike_edited, edited_from}

-- accepted steps, one after another, keep the model sound
pub prepared_sound : (Kind : Step → Type 0) (R D : State) → Prepared Kind R D → Sound R.facts → Sound D.facts
prepared_sound Kind R D (copied e) w = subst (λ (S : State). Sound S.facts) (sym e) w
prepared_sound Kind R E (stepped {D} step p k v) w = steps_stay_sound step D E (Ok tt) v (prepared_sound Kind R D p w)

pub steps_carry_soundness : StepsCarrySoundness
steps_carry_soundness R D p w = prepared_sound AnyStep R D p w

-- steps of one kind are steps of a wider kind
pub widened : (K L : Step → Type 0) → ((step : Step) → K step → L step) → (R D : State) → Prepared K R D → Prepared L R D
widened K L wide R D (copied e) = copied e
widened K L wide R E (stepped {D} step p k v) = stepped step (widened K L wide R D p) (wide step k) v

-- ── what a split and a join make ──

abbrev split_made : Split → State → State
split_made d S =
    record {
      facts = parted (side_of_kind d.kind) (parts_in d) S.facts;
      slots = each_edited (parted_rule (side_of_kind d.kind) (parts_in d)) S.slots;
    }

abbrev join_made : Join → State → State
join_made j S =
    record {
      facts = joined (side_of_kind j.kind) j.first j.second j.into S.facts;
      slots = each_edited (joined_rule (side_of_kind j.kind) j.first j.second j.into) S.slots;
    }

-- what an accepted split leaves is just that, and so with a join
split_leaves : (d : Split) (S T : State) → Stepped (Made.Split d) S (Ok tt) T → T ≡ split_made d S
split_leaves d S T v = let t = accepted_splits d S T v in λ i. record { facts = t.facts i; slots = t.rules i }

join_leaves : (j : Join) (S T : State) → Stepped (Made.Join j) S (Ok tt) T → T ≡ join_made j S
join_leaves j S T v = let t = accepted_joins j S T v in λ i. record { facts = t.facts i; slots = t.rules i }

-- ── a split and a join keep a state firm ──

split_firm : (d : Split) (S : State) → Stepped (Made.Split d) S (Ok tt) (split_made d S) → Firm S → Firm (split_made d S)
split_firm d S v w = record {
  sound = steps_stay_sound (Made.Split d) S (split_made d S) (Ok tt) v w.sound;
  names = λ slot u e.
      let from = edited_from (parted_rule (side_of_kind d.kind) (parts_in d)) (S.slots slot) u e in
      subst (NamesStand (split_made d S).facts) from.2
      (split_keeps_names S.facts (side_of_kind d.kind) (parts_in d) from.0 (w.names slot from.0 from.1));
}

join_firm : (j : Join) (S : State) → Stepped (Made.Join j) S (Ok tt) (join_made j S) → Firm S → Firm (join_made j S)
join_firm j S v w = record {
  sound = steps_stay_sound (Made.Join j) S (join_made j S) (Ok tt) v w.sound;
  names = λ slot u e.
      let from = edited_from (joined_rule (side_of_kind j.kind) j.first j.second j.into) (S.slots slot) u e in
      subst (NamesStand (join_made j S).facts) from.2
      (join_keeps_names S.facts (side_of_kind j.kind) j.first j.second j.into from.0 (w.names slot from.0 from.1));
}

-- ── the people of one step ──

split_same : (d : Split) (S : State) → Stepped (Made.Split d) S (Ok tt) (split_made d S) → Firm S → SamePeople S (split_made d S)
split_same d S v w slot =
    alike_edited _ (parted_rule (side_of_kind d.kind) (parts_in d)) (S.slots slot)
    (λ t e. split_keeps_answers S.facts (side_of_kind d.kind) (parts_in d) w.sound.ends (w.sound.circles (side_of_kind d.kind)) (accepted_splits d S (split_made d S) v).fits t (w.names slot t e))

split_drifts : (d : Split) (S : State) → Stepped (Made.Split d) S (Ok tt) (split_made d S) → Firm S → NobodyLost S (split_made d S)
split_drifts d S v w slot =
    alike_edited (Drifted S (split_made d S)) (parted_rule (side_of_kind d.kind) (parts_in d)) (S.slots slot)
    (λ t e.
    let same = split_keeps_answers S.facts (side_of_kind d.kind) (parts_in d) w.sound.ends (w.sound.circles (side_of_kind d.kind)) (accepted_splits d S (split_made d S) v).fits t (w.names slot t e) in
    record {
      kind = split_keeps_kind (side_of_kind d.kind) (parts_in d) t;
      nobody_lost = λ _ a q. (same a).1 q;
      nobody_gained = λ _ a q. (same a).0 q;
    })

join_drifts : (j : Join) (S : State) → NobodyLost S (join_made j S)
join_drifts j S slot =
    alike_edited (Drifted S (join_made j S)) (joined_rule (side_of_kind j.kind) j.first j.second j.into) (S.slots slot)
    (λ t e.
    record {
      kind = join_keeps_kind (side_of_kind j.kind) j.first j.second j.into t;
      nobody_lost = λ plain a q. (join_grows S.facts (side_of_kind j.kind) j.first j.second j.into t a).0 plain q;
      nobody_gained = λ negated a q. (join_grows S.facts (side_of_kind j.kind) j.first j.second j.into t a).1 negated q;
    })

-- ── one after another ──

pub same_self : (S : State) → SamePeople S S
same_self S slot = alike_self _ (S.slots slot) (λ t a. (λ q. q, λ q. q))

pub same_then : (S T U : State) → SamePeople S T → SamePeople T U → SamePeople S U
same_then S T U f g slot =
    alike_then _ _ _ (S.slots slot) (T.slots slot) (U.slots slot) (λ t u v p q a. (λ x. (p a).0 ((q a).0 x), λ x. (q a).1 ((p a).1 x))) (f slot) (g slot)

pub lost_self : (S : State) → NobodyLost S S
lost_self S slot =
    alike_self (Drifted S S) (S.slots slot) (λ t. record { kind = (λ p. p, λ p. p); nobody_lost = λ _ a q. q; nobody_gained = λ _ a q. q })

pub lost_then : (S T U : State) → NobodyLost S T → NobodyLost T U → NobodyLost S U
lost_then S T U f g slot =
    alike_then (Drifted S T) (Drifted T U) (Drifted S U) (S.slots slot) (T.slots slot) (U.slots slot)
    (λ t u v p q. record {
      kind = (λ x. q.kind.0 (p.kind.0 x), λ x. q.kind.1 (p.kind.1 x));
      nobody_lost = λ plain a x. q.nobody_lost (p.kind.0 plain) a (p.nobody_lost plain a x);
      nobody_gained = λ negated a x. p.nobody_gained negated a (q.nobody_gained (p.kind.1 negated) a x);
    })
    (f slot) (g slot)

-- ── lists of steps ──

splits_carry : (R D : State) → Prepared IsSplit R D → Firm R → Firm D × SamePeople R D
splits_carry R D (copied e) w = subst (λ (S : State). Firm S × SamePeople R S) (sym e) (w, same_self R)
splits_carry R E (stepped {D} (Made.Split d) p k v) w =
    let before = splits_carry R D p w in
    let e = split_leaves d D E v in
    let v' = subst (Stepped (Made.Split d) D (Ok tt)) e v in
    subst (λ (S : State). Firm S × SamePeople R S) (sym e)
    (split_firm d D v' before.0, same_then R D (split_made d D) before.1 (split_same d D v' before.0))
splits_carry R E (stepped {D} (Made.Add x) p k v) w = absurd k
splits_carry R E (stepped {D} (Made.Remove x) p k v) w = absurd k
splits_carry R E (stepped {D} (Made.Link x) p k v) w = absurd k
splits_carry R E (stepped {D} (Made.Unlink x) p k v) w = absurd k
splits_carry R E (stepped {D} (Made.Relink x) p k v) w = absurd k
splits_carry R E (stepped {D} (Made.Join x) p k v) w = absurd k
splits_carry R E (stepped {D} (Made.PutRule x y) p k v) w = absurd k
splits_carry R E (stepped {D} (Made.RemoveRule x) p k v) w = absurd k

pub splits_carry_people : SplitsCarryPeople
splits_carry_people R D p w = (splits_carry R D p w).1

joins_carry : (R D : State) → Prepared IsSplitOrJoin R D → Firm R → Firm D × NobodyLost R D
joins_carry R D (copied e) w = subst (λ (S : State). Firm S × NobodyLost R S) (sym e) (w, lost_self R)
joins_carry R E (stepped {D} (Made.Split d) p k v) w =
    let before = joins_carry R D p w in
    let e = split_leaves d D E v in
    let v' = subst (Stepped (Made.Split d) D (Ok tt)) e v in
    subst (λ (S : State). Firm S × NobodyLost R S) (sym e)
    (split_firm d D v' before.0, lost_then R D (split_made d D) before.1 (split_drifts d D v' before.0))
joins_carry R E (stepped {D} (Made.Join j) p k v) w =
    let before = joins_carry R D p w in
    let e = join_leaves j D E v in
    let v' = subst (Stepped (Made.Join j) D (Ok tt)) e v in
    subst (λ (S : State). Firm S × NobodyLost R S) (sym e)
    (join_firm j D v' before.0, lost_then R D (join_made j D) before.1 (join_drifts j D))
joins_carry R E (stepped {D} (Made.Add x) p k v) w = absurd k
joins_carry R E (stepped {D} (Made.Remove x) p k v) w = absurd k
joins_carry R E (stepped {D} (Made.Link x) p k v) w = absurd k
joins_carry R E (stepped {D} (Made.Unlink x) p k v) w = absurd k
joins_carry R E (stepped {D} (Made.Relink x) p k v) w = absurd k
joins_carry R E (stepped {D} (Made.PutRule x y) p k v) w = absurd k
joins_carry R E (stepped {D} (Made.RemoveRule x) p k v) w = absurd k

pub joins_carry_people : JoinsCarryPeople
joins_carry_people R D p w = (joins_carry R D p w).1
