-- Who has a number or something below it, from what is asked of the numbers below it.
use Rattle.std.proofs.Common.{◌≡◌, ℕ, ◌<◌, Bool, true, false, ◌||◌, List, [], ◌∷◌, ◌++◌, All, Decides, sym, refl, ap, ◌∙◌, inr, ⊎_elim}
use Rattle.std.proofs.lemmas.Bool.{or_cases, or_left, or_right, both_ways, cases_Bool}
use Rattle.std.proofs.lemmas.List.Elements.{All-push, All-weaker}
use Rattle.bits.specs.Bit.{bit}
use Rattle.bits.specs.Members.{members}
use Rattle.model.specs.Chains.{Below}
use Rattle.model.specs.Facts.{Facts, OnlyPossible}
use Rattle.model.specs.Sides.{has, has_sort}
use Rattle.model.specs.declared.side.Side.{Side}
use Rattle.model.proofs.Closure.{below-number}
use Rattle.answers.specs.Qualify.{Reaches}
use Rattle.answers.proofs.Members.{listed}

module _ (F : Facts) (k : Side) (n : ℕ) where
  -- whoever has x is found
  abbrev pub Found : (ℕ → Bool) → ℕ → Type 0
  Found found x = (a : ℕ) → has F k a x ≡ true → found a ≡ true

  -- whoever is found reaches n, and whoever has n or one that came is found
  pub record Gathered (found : ℕ → Bool) (came : List ℕ) : Type 0 where
    pub reach : (a : ℕ) → found a ≡ true → Reaches F k n true a
    pub own : Found found n
    pub below : All (Found found) came

  -- one more comes
  pub gathered_more : (old row new : ℕ → Bool) (came : List ℕ) (m s : ℕ) → Below F k m n → s ≡ has_sort k → ((a : ℕ) → row a ≡ F s a m) → ((a : ℕ) → new a ≡ (old a || row a))
      → Gathered old came → Gathered new (came ++ (m ∷ []))
  gathered_more old row new came m s under sort is or h =
      let of : (a : ℕ) → row a ≡ has F k a m = λ a. is a ∙ ap (λ (t : ℕ). F t a m) sort in
      let kept : (x : ℕ) → Found old x → Found new x = λ x f a e. or a ∙ or_left (old a) (row a) (f a e) in
      record {
        reach = λ a e. ⊎_elim (h.reach a) (λ r. inr (refl, (m, sym (of a) ∙ r, under))) (or_cases (old a) (row a) (sym (or a) ∙ e));
        own = kept n h.own;
        below = All-push (Found new) came m (All-weaker (Found old) (Found new) kept came h.below) (λ a e. or a ∙ or_right (old a) (row a) (of a ∙ e));
      }

  module _ (only : OnlyPossible F) (w : ℕ) (below : (x : ℕ) → Decides (bit w x) (Below F k x n)) where
    in_word : (x : ℕ) → Below F k x n → (x < 64) × (bit w x ≡ true)
    in_word x under = (below-number F k only under, (below x).1 under)

    -- all that are below n came
    pub gathered_all : (found : ℕ → Bool) → Gathered found (members w) → (a : ℕ) → Decides (found a) (Reaches F k n true a)
    gathered_all found h a = (
      h.reach a,
      λ q. ⊎_elim (h.own a) (λ p. let i = in_word p.1.0 p.1.2 in listed (Found found) w h.below p.1.0 i.0 i.1 a p.1.1) q,
    )

    -- actor a has not n, and r tells whether it has one below n
    pub asked_all : (a : ℕ) (r : Bool) → has F k a n ≡ false
        → (r ≡ true → (x : ℕ) × (bit w x ≡ true) × (has F k a x ≡ true)) × (r ≡ false → (x : ℕ) → x < 64 → bit w x ≡ true → has F k a x ≡ false)
        → Decides r (Reaches F k n true a)
    asked_all a r out t = (
      λ e. let y = t.0 e in inr (refl, (y.0, y.2, (below y.0).0 y.1)),
      λ q. ⊎_elim
          (λ h. absurd (both_ways (has F k a n) out h))
          (λ p. let i = in_word p.1.0 p.1.2 in ⊎_elim (λ y. y) (λ e. absurd (both_ways (has F k a p.1.0) (t.1 e p.1.0 i.0 i.1) p.1.1)) (cases_Bool r))
          q,
    )
