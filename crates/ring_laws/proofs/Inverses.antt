-- The polynomials 1 and 0 as factors, what excludes an inverse, and that there is one at most.
use Rattle.std.proofs.Common.{◌≡◌, ℕ, zero, suc, ◌+◌, ◌-◌, ◌<◌, List, [], ◌∷◌, length, ℤ, pos, ◌*ℤ◌, refl, sym, ap, subst, ◌∙◌, All, arith}
use Rattle.std.proofs.lemmas.Int.{ints}
use Rattle.std.proofs.lemmas.List.{ext_get_or, length-replicate}
use Rattle.std.proofs.Math.IntN.{*ℤ_comm, zero-*ℤ}
use Rattle.ring_poly.specs.Ring.{coefficient, product, weighted, IsCentred, AreCongruent}
use Rattle.ring_poly.proofs.Weighted.{back, entry}
use Rattle.ring_poly.proofs.WindowSums.{length-product}
use Rattle.ring_poly.proofs.Commutes.{product_comm}
use Rattle.ring_poly.proofs.Congruences.{times_one}
use Rattle.ring_solve.specs.Fields.{one, zero_of}
use Rattle.ring_solve.specs.Solutions.{Solves, coefficients_of}
use Rattle.ring_solve.specs.declared.answer.Solved.{Solved}
use Rattle.ring_solve.specs.declared.answer.Solved.TheVariants.{Inverse, Kernel}
use Rattle.ring_laws.specs.Laws.{HasInverse, Shows}
use Rattle.ring_laws.proofs.Turning.{by_second, coefficient_past, product_assoc, product_respects}
use Rattle.ring_laws.proofs.Polynomials.{AreCongruent-back, AreCongruent-then, coefficient-zeros, centred_nonzero, centred_same}

weighted_blank : (a : List ℤ) (g : ℕ → ℤ) → ((k : ℕ) → coefficient a k ≡ pos 0) → weighted a g ≡ pos 0
weighted_blank [] g h = refl
weighted_blank (c ∷ a) g h =
    let first : c *ℤ g 0 ≡ pos 0 = ap (λ x. x *ℤ g 0) (h 0) ∙ zero-*ℤ (g 0) in
    let rest = weighted_blank a (λ j. g (suc j)) (λ k. h (suc k)) in
    omega (arith, ints)

entry_first : (p : ℕ) (a : List ℤ) (k : ℕ) → length a ≡ p → entry p a k 0 ≡ coefficient a k
unfolding entry back
entry_first p a zero len = let past = coefficient_past a (p + 0) (omega arith) in omega (arith, ints)
entry_first p a (suc k) len =
    let past = coefficient_past a (p + suc k) (omega arith) in
    let before = coefficient_past a (p + k) (omega arith) in
    omega (arith, ints)

-- a times 1 is a
pub product_one : (p : ℕ) (a : List ℤ) → length a ≡ p → product p a (one p) ≡ a
product_one p a len =
    let l = length-product p a (one p) in
    ext_get_or (pos 0) (product p a (one p)) a (omega arith) (λ k below.
    let lt : k < p = omega arith in
    let rest = weighted_blank (zero_of (p - 1)) (λ j. entry p a k (suc j)) (coefficient-zeros (p - 1)) in
    let first = *ℤ_comm (pos 1) (entry p a k 0) ∙ times_one (entry p a k 0) ∙ entry_first p a k len in
    by_second p a (one p) k lt ∙ (let e : weighted (one p) (entry p a k) ≡ coefficient a k = omega (arith, ints) in e))

-- a times 0 is 0
pub product_zero : (p : ℕ) (a : List ℤ) → product p a (zero_of p) ≡ zero_of p
product_zero p a =
    let l = length-product p a (zero_of p) in
    let z = length-replicate p (pos 0) in
    ext_get_or (pos 0) (product p a (zero_of p)) (zero_of p) (omega arith) (λ k below.
    let lt : k < p = omega arith in
    by_second p a (zero_of p) k lt ∙ weighted_blank (zero_of p) (entry p a k) (coefficient-zeros p) ∙ sym (coefficient-zeros p k))

-- z is z (a b), which is b (a z), which is 0
inverse_leaves_zero : (p : ℕ) (m : ℤ) (a b z : List ℤ) → 1 < p → length a ≡ p → length b ≡ p → length z ≡ p
    → AreCongruent m (product p a z) (zero_of p) → AreCongruent m (product p a b) (one p) → AreCongruent m z (zero_of p)
inverse_leaves_zero p m a b z some la lb lz kernel inverse =
    let turned : product p z (product p a b) ≡ product p b (product p a z) =
    sym (product_assoc p z a b some lz la lb) ∙ product_comm p (product p z a) b ∙ ap (λ x. product p b x) (product_comm p z a) in
    let to_z : AreCongruent m (product p z (product p a b)) z =
    (let P : List ℤ → Type 0 = λ x. AreCongruent m (product p z (product p a b)) x in subst P (product_one p z lz) (product_respects p m z (product p a b) (one p) inverse)) in
    let to_zero : AreCongruent m (product p b (product p a z)) (zero_of p) =
    (let P : List ℤ → Type 0 = λ x. AreCongruent m (product p b (product p a z)) x in subst P (product_zero p b) (product_respects p m b (product p a z) (zero_of p) kernel)) in
    AreCongruent-then m z (product p z (product p a b)) (zero_of p) (AreCongruent-back m _ _ to_z)
    (let P : List ℤ → Type 0 = λ x. AreCongruent m x (zero_of p) in subst P (sym turned) to_zero)

pub kernel_excludes : (p : ℕ) (m : ℤ) (a z : List ℤ) → 1 < p → length a ≡ p → length z ≡ p → (AreCongruent m z (zero_of p) → ⊥)
    → AreCongruent m (product p a z) (zero_of p) → HasInverse p m a → ⊥
kernel_excludes p m a z some la lz nonzero kernel inverse = nonzero (inverse_leaves_zero p m a inverse.0 z some la inverse.1 lz kernel inverse.2)

-- b is b (a c), which is c (a b), which is c
pub inverses_congruent : (p : ℕ) (m : ℤ) (a b c : List ℤ) → 1 < p → length a ≡ p → length b ≡ p → length c ≡ p
    → AreCongruent m (product p a b) (one p) → AreCongruent m (product p a c) (one p) → AreCongruent m b c
inverses_congruent p m a b c some la lb lc by_b by_c =
    let turned : product p b (product p a c) ≡ product p c (product p a b) =
    sym (product_assoc p b a c some lb la lc) ∙ product_comm p (product p b a) c ∙ ap (λ x. product p c x) (product_comm p b a) in
    let to_b : AreCongruent m (product p b (product p a c)) b =
    (let P : List ℤ → Type 0 = λ x. AreCongruent m (product p b (product p a c)) x in subst P (product_one p b lb) (product_respects p m b (product p a c) (one p) by_c)) in
    let to_c : AreCongruent m (product p c (product p a b)) c =
    (let P : List ℤ → Type 0 = λ x. AreCongruent m (product p c (product p a b)) x in subst P (product_one p c lc) (product_respects p m c (product p a b) (one p) by_b)) in
    AreCongruent-then m b (product p b (product p a c)) c (AreCongruent-back m _ _ to_b)
    (let P : List ℤ → Type 0 = λ x. AreCongruent m x c in subst P (sym turned) to_c)

pub inverses_equal : (p : ℕ) (m : ℤ) (a b c : List ℤ) → 1 < p → length a ≡ p → length b ≡ p → length c ≡ p → All (IsCentred m) b → All (IsCentred m) c
    → AreCongruent m (product p a b) (one p) → AreCongruent m (product p a c) (one p) → b ≡ c
inverses_equal p m a b c some la lb lc v w by_b by_c = centred_same m b c v w (inverses_congruent p m a b c some la lb lc by_b by_c)

-- what the solver answers shows whether there is an inverse
pub answer_shows : (p : ℕ) (m : ℤ) (a : List ℤ) (s : Solved) → 1 < p → length a ≡ p → length (coefficients_of s) ≡ p → All (IsCentred m) (coefficients_of s)
    → Solves p m a s → Shows p m a s
answer_shows p m a (Inverse b) some la ls v h = (b, ls, h)
answer_shows p m a (Kernel z) some la ls v h = kernel_excludes p m a z some la ls (centred_nonzero p m z (omega arith) ls v h.1) h.0
