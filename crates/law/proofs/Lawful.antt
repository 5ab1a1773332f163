-- Every run of a new engine keeps the law.
use Rattle.std.proofs.Common.{◌≡◌, ℕ, zero, suc, ◌+◌, ◌-◌, ◌<◌, ◌≤◌, false, List, None, sym, refl, ◌∙◌, subst, ⊎_elim, add-one, arith}
use Rattle.std.proofs.lemmas.Bool.{false≢true}
use Rattle.model.specs.Chains.{Chain, one, more}
use Rattle.model.specs.Facts.{nothing}
use Rattle.transfer.specs.Contents.{Writing}
use Rattle.drafts.specs.Steps.{State}
use Rattle.drafts.specs.declared.step.Step.{Step}
use Rattle.effects.specs.Sound.{Sound}
use Rattle.engine.specs.Asking.{TellsSet, TellsWhether}
use Rattle.engine.specs.Moments.{Moment, idle, released}
use Rattle.law.specs.Changes.{Holds, NothingReleased}
use Rattle.law.specs.Kinds.{IsSplit, IsSplitOrJoin}
use Rattle.law.specs.Law.{Law, at}
use Rattle.law.specs.Orders.{Scene}
use Rattle.law.specs.People.{SamePeople, NobodyLost}
use Rattle.law.specs.Prepared.{Prepared, Firm}
use Rattle.law.specs.Runs.{Run}
use Rattle.law.specs.declared.order.Order.{Order}
use Rattle.law.specs.declared.order.Answer.TheVariants as A
use Rattle.law.proofs.Carry.{widened, splits_carry_people, joins_carry_people, same_self, same_then, lost_self, lost_then}
use Rattle.law.proofs.Told.{set_told_once, whether_told_once}
use Rattle.law.proofs.Turns.{Turn, turn}
use Rattle.law.proofs.Upright.{Upright, InOrder}

-- An engine as it is made: no facts, no rules, no change.
pub record Fresh (m : Moment) : Type 0 where
  pub facts : m.store.facts ≡ nothing
  pub book : (slot : ℕ) → m.book slot ≡ None
  pub change : m.change ≡ idle

-- ── the making ──

no_chain : {x y : ℕ} → Chain (λ a b. false) x y → ⊥
no_chain (one p) = false≢true p
no_chain (more p q) = false≢true p

nothing_sound : Sound nothing
nothing_sound = record {
  ends = record {
    actor = λ k a y h. absurd (false≢true h);
    group = λ k a y h. absurd (false≢true h);
    lower = λ k x y h. absurd (false≢true h);
    upper = λ k x y h. absurd (false≢true h);
  };
  circles = λ k c. no_chain c.1;
}

fresh_upright : (Kind : Step → Type 0) (m : Moment) → Fresh m → Upright Kind m
fresh_upright Kind m f = record {
  sound = subst Sound (sym f.facts) nothing_sound;
  valid = λ slot t e. absurd (cc (f.book slot));
  change = subst (InOrder Kind m) (sym f.change) tt;
}

firm : (Kind : Step → Type 0) (m : Moment) → Upright Kind m → Firm (released m)
firm Kind m u = record { sound = u.sound; names = λ slot t e. (u.valid slot t e).names }

module _ {W : Writing} {start : Scene} {orders : List Order} {n : ℕ} (run : Run W start orders n) (fresh : Fresh start.engine) where
  -- ── every moment ──

  upright : (k : ℕ) → k ≤ n → Upright (Holds run k) (at run k)
  upright zero l = fresh_upright (Holds run 0) (at run 0) (subst (λ (s : Scene). Fresh s.engine) (sym run.begins) fresh)
  upright (suc k) l = subst (λ (j : ℕ). Upright (Holds run j) (at run j)) (add-one k) (turn run k (omega arith) (upright k (omega arith))).next

  turn_at : (k : ℕ) → k < n → Turn run k
  turn_at k l = turn run k l (upright k (omega arith))

  -- ── between two moments ──

  -- a relation that holds of a state and itself, goes on, and holds of what each release makes, holds between any two moments
  between : (Rel : State → State → Type 0) → ((S : State) → Rel S S) → ((S T U : State) → Rel S T → Rel T U → Rel S U)
      → (i d : ℕ) → i + d ≤ n
      → ((k : ℕ) → i ≤ k → k < i + d → run.answer k ≡ A.Released → Prepared (Holds run k) (released (at run k)) (released (at run (k + 1))) → Firm (released (at run k))
      → Rel (released (at run k)) (released (at run (k + 1))))
      → Rel (released (at run i)) (released (at run (i + d)))
  between Rel self then i zero l each = subst (λ (j : ℕ). Rel (released (at run i)) (released (at run j))) (omega arith) (self (released (at run i)))
  between Rel self then i (suc d) l each =
      let before = between Rel self then i d (omega arith) (λ k a b. each k a (omega arith)) in
      let last = turn_at (i + d) (omega arith) in
      let step : Rel (released (at run (i + d))) (released (at run (i + d + 1))) =
      ⊎_elim
      (λ (e : released (at run (i + d + 1)) ≡ released (at run (i + d))). subst (Rel (released (at run (i + d)))) (sym e) (self (released (at run (i + d)))))
      (λ p. each (i + d) (omega arith) (omega arith) p.0 p.1 (firm (Holds run (i + d)) (at run (i + d)) (upright (i + d) (omega arith))))
      last.moves in
      subst (λ (j : ℕ). Rel (released (at run i)) (released (at run j))) (omega arith)
      (then (released (at run i)) (released (at run (i + d))) (released (at run (i + d + 1))) before step)

  -- from i to j, for i ≤ j
  over : (Rel : State → State → Type 0) → ((S : State) → Rel S S) → ((S T U : State) → Rel S T → Rel T U → Rel S U)
      → (i j : ℕ) → i ≤ j → j ≤ n
      → ((k : ℕ) → i ≤ k → k < j → run.answer k ≡ A.Released → Prepared (Holds run k) (released (at run k)) (released (at run (k + 1))) → Firm (released (at run k))
      → Rel (released (at run k)) (released (at run (k + 1))))
      → Rel (released (at run i)) (released (at run j))
  over Rel self then i j le l each =
      let whole : i + (j - i) ≡ j = omega arith in
      subst (λ (h : ℕ). Rel (released (at run i)) (released (at run h))) whole
      (between Rel self then i (j - i) (omega arith) (λ k a b. each k a (omega arith)))

  unmoved : (i j : ℕ) → i ≤ j → j ≤ n → NothingReleased run i j → released (at run j) ≡ released (at run i)
  unmoved i j le l none =
      over (λ (S T : State). T ≡ S) (λ S. refl) (λ S T U p q. q ∙ p) i j le l (λ k a b r p w. absurd (none k a b r))

  pub lawful : Law run
  lawful = record {
    rules_are_valid = λ i l. (upright i l).valid;
    no_circle = λ i l. (upright i l).sound.circles;
    splits_keep_everyone = λ i j le l only.
        over SamePeople same_self same_then i j le l
        (λ k a b r p w. splits_carry_people (released (at run k)) (released (at run (k + 1)))
        (widened (Holds run k) IsSplit (only k a b r) (released (at run k)) (released (at run (k + 1))) p) w);
    joins_lose_nobody = λ i j le l only.
        over NobodyLost lost_self lost_then i j le l
        (λ k a b r p w. joins_carry_people (released (at run k)) (released (at run (k + 1)))
        (widened (Holds run k) IsSplitOrJoin (only k a b r) (released (at run k)) (released (at run (k + 1))) p) w);
    sets_stay = λ i j le l none slot r q at_i at_j.
        set_told_once (released (at run i)) slot r q at_i (subst (λ (S : State). TellsSet S slot q) (unmoved i j le l none) at_j);
    yes_or_no_stays = λ i j le l none slot actor r q at_i at_j.
        whether_told_once (released (at run i)) slot actor r q at_i (subst (λ (S : State). TellsWhether S slot actor q) (unmoved i j le l none) at_j);
    cleared_drafts_fit = λ i l D e. (subst (InOrder (Holds run i) (at run i)) e (upright i l).change).2;
    differences_in_range = λ k l p e. (turn_at k l).range p e;
  }
