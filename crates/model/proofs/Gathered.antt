-- One number more in the loop that gathers a row.
use Rattle.std.proofs.Common.{◌≡◌, ℕ, ◌+◌, ◌<◌, Bool, true, false, ◌&&◌, ◌||◌, eqb, ltb, sym, ap, ◌∙◌, ⊎_elim, arith}
use Rattle.std.proofs.lemmas.Bool.{cases_eq, and_right, and_left, and_from, or_right, lt-ltb, eq-eqb, ne_eqb}
use Rattle.std.proofs.lemmas.Bool.Decides.{nat_tests}
use Rattle.model.proofs.Closure.{or-none}

-- past x the numbers below x + 1 are those below x
other : (x k : ℕ) → (k ≡ x → ⊥) → ltb k x ≡ ltb k (x + 1)
other x k d = grind (arith, nat_tests)

pub hit : (S : ℕ → Bool) (x k : ℕ) → x < 64 → S x ≡ true → ((ltb k x && S k) || (eqb k x && ltb x 64)) ≡ (ltb k (x + 1) && S k)
hit S x k l h =
    ⊎_elim
    (λ (e : k ≡ x). or_right (ltb k x && S k) (eqb k x && ltb x 64) (and_from (eqb k x) (ltb x 64) (eq-eqb k x e) (lt-ltb x 64 l))
    ∙ sym (and_from (ltb k (x + 1)) (S k) (lt-ltb k (x + 1) (omega arith)) (ap S e ∙ h)))
    (λ (d : k ≡ x → ⊥). or-none (ltb k x && S k) (eqb k x && ltb x 64) (and_left (eqb k x) (ltb x 64) (ne_eqb k x d)) ∙ ap (λ (b : Bool). b && S k) (other x k d))
    (cases_eq k x)

pub miss : (S : ℕ → Bool) (x k : ℕ) → S x ≡ false → (ltb k x && S k) ≡ (ltb k (x + 1) && S k)
miss S x k h =
    ⊎_elim
    (λ (e : k ≡ x). and_right (ltb k x) (S k) (ap S e ∙ h) ∙ sym (and_right (ltb k (x + 1)) (S k) (ap S e ∙ h)))
    (λ (d : k ≡ x → ⊥). ap (λ (b : Bool). b && S k) (other x k d))
    (cases_eq k x)
