-- Bytes and nodes are the same where both are allowed.
use Rattle.std.proofs.Common.{◌≡◌, ℕ, zero, suc, ◌<◌, Bool, true, false, ◌&&◌, eqb, ltb, ◌⊎◌, sym, refl, ap, ◌∙◌, inl, inr, ⊎_elim, arith}
use Rattle.std.proofs.lemmas.Bool.{ltb-true, lt-ltb, eqb-true, and_parts, and_from, or_cases, or_left, true≢false}
use Rattle.model.specs.declared.side.Side.TheVariants.{Role, Unit}
use Rattle.rules.specs.declared.node.Leaf.{Leaf}
use Rattle.rules.specs.declared.node.Leaf.TheVariants.{Actor, Group}
use Rattle.rules.specs.declared.node.Node.{Node}
use Rattle.rules.specs.declared.node.Node.TheVariants.{Is, Not, And, Or}
use Rattle.rules.specs.declared.bytes.NodeBytes.{NodeBytes}
use Rattle.rules.specs.Trees.{in_range}
use Rattle.rules.specs.Bytes.{leaf_bytes, node_bytes, leaf_allowed, operator_allowed, allowed, leaf_of, node_of, node_in_range, BytesExact}

abbrev make : ℕ → ℕ → ℕ → ℕ → NodeBytes
make t k n m = record { tag = t; kind = k; number = n; mark = m }

no : {X : Type 0} → ◌≡◌ {A = Bool} false true → X
no e = absurd (true≢false (sym e))

-- the fields of a leaf
abbrev Fields : ℕ → ℕ → ℕ → Type 0
Fields k n m = (k < 3) × (n < 64) × (m < 2) × ((0 < k) ⊎ (m ≡ 0))

leaf_fields : (t k n m : ℕ) → leaf_allowed (make t k n m) ≡ true → Fields k n m
leaf_fields t k n m h =
    let p = and_parts (ltb t 2) _ h in
    let q = and_parts (ltb k 3) _ p.1 in
    let r = and_parts (ltb n 64) _ q.1 in
    let s = and_parts (ltb m 2) _ r.1 in (
      ltb-true k 3 q.0,
      ltb-true n 64 r.0,
      ltb-true m 2 s.0,
      ⊎_elim (λ e. inl (ltb-true 0 k e)) (λ e. inr (eqb-true m 0 e)) (or_cases (ltb 0 k) (eqb m 0) s.1),
    )

-- a leaf's bytes come back
leaf-back : (s t k n m : ℕ) → Fields k n m → (in_range (leaf_of (make s k n m)) ≡ ltb n 64) × (leaf_bytes t (leaf_of (make s k n m)) ≡ make t k n m)
leaf-back s t zero n zero f = (refl, refl)
leaf-back s t zero n (suc m) f = absurd (⊎_elim (λ (e : 0 < 0). omega arith) (λ (e : suc m ≡ 0). omega arith) f.3)
leaf-back s t (suc zero) n zero f = (refl, refl)
leaf-back s t (suc zero) n (suc zero) f = (refl, refl)
leaf-back s t (suc zero) n (suc (suc m)) f = let l = f.2 in absurd (omega arith)
leaf-back s t (suc (suc zero)) n zero f = (refl, refl)
leaf-back s t (suc (suc zero)) n (suc zero) f = (refl, refl)
leaf-back s t (suc (suc zero)) n (suc (suc m)) f = let l = f.2 in absurd (omega arith)
leaf-back s t (suc (suc (suc k))) n m f = let l = f.0 in absurd (omega arith)

abbrev Back : NodeBytes → Type 0
Back b = (node_in_range (node_of b) ≡ true) × (node_bytes (node_of b) ≡ b)

leaf_only : (t k n m : ℕ) → operator_allowed (make t k n m) ≡ false → allowed (make t k n m) ≡ true → leaf_allowed (make t k n m) ≡ true
leaf_only t k n m none h = ⊎_elim (λ e. e) (λ e. no (sym none ∙ e)) (or_cases (leaf_allowed (make t k n m)) (operator_allowed (make t k n m)) h)

-- an operator's other three fields are 0
zeros : (k n m : ℕ) → (eqb k 0 && (eqb n 0 && eqb m 0)) ≡ true → (k ≡ 0) × (n ≡ 0) × (m ≡ 0)
zeros k n m h =
    let p = and_parts (eqb k 0) _ h in
    let q = and_parts (eqb n 0) _ p.1 in
    (eqb-true k 0 p.0, eqb-true n 0 q.0, eqb-true m 0 q.1)

make_is : (t k n m : ℕ) → k ≡ 0 → n ≡ 0 → m ≡ 0 → make t k n m ≡ make t 0 0 0
make_is t k n m a b c = ap (λ x. make t x n m) a ∙ ap (λ x. make t 0 x m) b ∙ ap (make t 0 0) c

back : (t k n m : ℕ) → allowed (make t k n m) ≡ true → Back (make t k n m)
back zero k n m h =
    let f = leaf_fields 0 k n m (leaf_only 0 k n m refl h) in
    let r = leaf-back 0 0 k n m f in
    (r.0 ∙ lt-ltb n 64 f.1, r.1)
back (suc zero) k n m h =
    let f = leaf_fields 1 k n m (leaf_only 1 k n m refl h) in
    let r = leaf-back 1 1 k n m f in
    (r.0 ∙ lt-ltb n 64 f.1, r.1)
back (suc (suc zero)) k n m h = let z = zeros k n m h in (refl, sym (make_is 2 k n m z.0 z.1 z.2))
back (suc (suc (suc zero))) k n m h = let z = zeros k n m h in (refl, sym (make_is 3 k n m z.0 z.1 z.2))
back (suc (suc (suc (suc t)))) k n m h =
    absurd (⊎_elim
    (λ e. let l = ltb-true (suc (suc (suc (suc t)))) 2 (and_parts _ _ e).0 in omega arith)
    (λ e. ⊎_elim (λ q. let z = eqb-true (suc (suc (suc (suc t)))) 2 q in omega arith) (λ q. let z = eqb-true (suc (suc (suc (suc t)))) 3 q in omega arith) (or_cases _ _ (and_parts _ _ e).0))
    (or_cases (leaf_allowed (make (suc (suc (suc (suc t)))) k n m)) (operator_allowed (make (suc (suc (suc (suc t)))) k n m)) h))

leaf-forth : (t : ℕ) (l : Leaf) → ltb t 2 ≡ true → in_range l ≡ true → (leaf_allowed (leaf_bytes t l) ≡ true) × (leaf_of (leaf_bytes t l) ≡ l)
leaf-forth t (Actor a) l h = (and_from (ltb t 2) _ l (and_from (ltb a 64) _ h refl), refl)
leaf-forth t (Group Role n true) l h = (and_from (ltb t 2) _ l (and_from (ltb n 64) _ h refl), refl)
leaf-forth t (Group Role n false) l h = (and_from (ltb t 2) _ l (and_from (ltb n 64) _ h refl), refl)
leaf-forth t (Group Unit n true) l h = (and_from (ltb t 2) _ l (and_from (ltb n 64) _ h refl), refl)
leaf-forth t (Group Unit n false) l h = (and_from (ltb t 2) _ l (and_from (ltb n 64) _ h refl), refl)

-- a leaf's bytes have the tag that it is given
leaf_tag : (t : ℕ) (l : Leaf) → (leaf_bytes t l).tag ≡ t
leaf_tag t (Actor a) = refl
leaf_tag t (Group k n plus) = refl

forth : (n : Node) → node_in_range n ≡ true → (allowed (node_bytes n) ≡ true) × (node_of (node_bytes n) ≡ n)
forth (Is l) h =
    let f = leaf-forth 0 l refl h in
    (or_left (leaf_allowed (leaf_bytes 0 l)) (operator_allowed (leaf_bytes 0 l)) f.0, rw (leaf_tag 0 l) (ap Is f.1))
forth (Not l) h =
    let f = leaf-forth 1 l refl h in
    (or_left (leaf_allowed (leaf_bytes 1 l)) (operator_allowed (leaf_bytes 1 l)) f.0, rw (leaf_tag 1 l) (ap Not f.1))
forth And h = (refl, refl)
forth Or h = (refl, refl)

pub bytes_exact : BytesExact
bytes_exact = record { back = λ b. back b.tag b.kind b.number b.mark; forth = forth }
