-- Runs grow by one order at a time.
use Rattle.std.proofs.Common.{◌≡◌, ℕ, ◌+◌, ◌<◌, ◌≤◌, Bool, cond, ltb, ◌≢◌, List, length, get_or, set, sym, refl, ap, ◌∙◌, subst₂, arith, get_or-set_other, get_or-set_same, below_more, le-ltb, lt-ltb}
use mathlib.Core.Path.{subst₃}
use Rattle.transfer.specs.Contents.{Writing}
use Rattle.engine.specs.Moments.{Moment}
use Rattle.law.specs.Orders.{Scene, Obeys}
use Rattle.law.specs.Purses.{Purse}
use Rattle.law.specs.Ran.{Ran, obeyed}
use Rattle.law.specs.Runs.{Run, order_at}
use Rattle.law.specs.declared.order.Order.{Order}
use Rattle.law.specs.declared.order.Answer.{Answer}
use Rattle.law.specs.declared.order.Answer.TheVariants.{NoCall}
use Rattle.law.proofs.Lawful.{Fresh, lawful}

-- The first n orders were obeyed from the start, which led to the scene now; their answers are told, and the rest of the room is as it was.
pub record SoFar (W : Writing) (start : Scene) (orders : List Order) (room : List Answer) (n : ℕ) (now : Scene) (answers : List Answer) : Type 0 where
  pub run : Run W start orders n
  pub last : now ≡ run.scene n
  pub told : (k : ℕ) → k < n → get_or answers k NoCall ≡ run.answer k
  pub untold : (k : ℕ) → n ≤ k → get_or answers k NoCall ≡ get_or room k NoCall

-- No order was obeyed yet.
pub no_order : (W : Writing) (start : Scene) (orders : List Order) (room : List Answer) → SoFar W start orders room 0 start room
no_order W start orders room =
    record {
      run = record { scene = λ k. start; answer = λ k. NoCall; begins = refl; goes_on = λ k h. absurd (omega arith) };
      last = refl;
      told = λ k h. absurd (omega arith);
      untold = λ k h. refl;
    }

-- A sequence below n, and another value from there on.
abbrev pub followed : {A : Type 0} → (ℕ → A) → ℕ → A → ℕ → A
followed f n x k = cond (ltb k n) (f k) x

pub before : {A : Type 0} (f : ℕ → A) (n : ℕ) (x : A) (k : ℕ) → k < n → followed f n x k ≡ f k
before {A} f n x k h = ap (λ (b : Bool). cond {A = A} b (f k) x) (lt-ltb k n h)

pub after : {A : Type 0} (f : ℕ → A) (n : ℕ) (x : A) (k : ℕ) → n ≤ k → followed f n x k ≡ x
after {A} f n x k h = ap (λ (b : Bool). cond {A = A} b (f k) x) (le-ltb k n h)

module _ {W : Writing} {start : Scene} {orders : List Order} {room : List Answer} where
  -- One more order is obeyed, and its answer told.
  pub one_more_order : {n : ℕ} {s : Scene} {answers : List Answer} → SoFar W start orders room n s answers → n < length answers
      → (a : Answer) (t : Scene) → Obeys W (order_at orders n) s a t → SoFar W start orders room (n + 1) t (set answers n a)
  one_more_order {n} {s} {answers} so fits a t obeys =
      let was = so.run.scene in
      let said = so.run.answer in
      let scenes = followed was (n + 1) t in
      let sayings = followed said n a in
      record {
        run =
            record {
              scene = scenes;
              answer = sayings;
              begins = before was (n + 1) t 0 (omega arith) ∙ so.run.begins;
              goes_on =
                  below_more (λ (k : ℕ). Obeys W (order_at orders k) (scenes k) (sayings k) (scenes (k + 1))) n
                  (λ k h. subst₃ (Obeys W (order_at orders k)) (sym (before was (n + 1) t k (omega arith))) (sym (before said n a k h)) (sym (before was (n + 1) t (k + 1) (omega arith))) (so.run.goes_on k h))
                  (subst₃ (Obeys W (order_at orders n)) (so.last ∙ sym (before was (n + 1) t n (omega arith))) (sym (after said n a n (omega arith))) (sym (after was (n + 1) t (n + 1) (omega arith))) obeys);
            };
        last = sym (after was (n + 1) t (n + 1) (omega arith));
        told =
            below_more (λ (k : ℕ). get_or (set answers n a) k NoCall ≡ sayings k) n
            (λ k h. let other : k ≢ n = omega arith in get_or-set_other answers n k a NoCall other ∙ so.told k h ∙ sym (before said n a k h))
            (get_or-set_same answers n a NoCall fits ∙ sym (after said n a n (omega arith)));
        untold = λ k h. let other : k ≢ n = omega arith in get_or-set_other answers n k a NoCall other ∙ so.untold k (omega arith);
      }

-- When as many orders were obeyed as there is room for, the run is made, and it keeps the law. The engine at the start was m.
pub all_obeyed : {W : Writing} {orders : List Order} {room : List Answer} {first : Moment} {purse : Purse} {n : ℕ} {s : Scene} {answers : List Answer} (m : Moment)
    → SoFar W (record { engine = first; purse = purse }) orders room n s answers → n ≡ obeyed orders room → first ≡ m → Fresh m
    → Ran W (record { engine = m; purse = purse }) orders room s.engine s.purse answers
all_obeyed {W} {orders} {room} {first} {purse} {n} {s} {answers} m so all same fresh =
    let done = subst₂ (λ (e : Moment) (k : ℕ). SoFar W (record { engine = e; purse = purse }) orders room k s answers) same all so in
    record {
      run = done.run;
      law = lawful done.run fresh;
      last_engine = ap (λ (z : Scene). z.engine) done.last;
      last_purse = ap (λ (z : Scene). z.purse) done.last;
      told = done.told;
      untold = done.untold;
    }
