-- Back substitution.
use Rattle.std.proofs.Common.{◌≡◌, ℕ, zero, suc, ◌+◌, ◌*◌, ◌<◌, ◌≤◌, List, [], ◌∷◌, length, slice_index, set, map, sum, take, get_or, get_or-set_same, get_or-set_other, ⊎_elim, ℤ, pos, ◌+ℤ◌, ◌*ℤ◌, refl, sym, ap, subst, ◌∙◌, arith}
use Rattle.std.proofs.lemmas.Int.{ints}
use Rattle.std.proofs.lemmas.Bool.{cases_lt, cases_order, cases_eq}
use Rattle.std.proofs.lemmas.List.{length-map, get_or-map, set_past}
use Rattle.std.proofs.lemmas.List.Sums.{sum_by-cons}
use Rattle.std.proofs.Math.IntN.{*ℤ-zero, zero-*ℤ, pos-*ℤ-pos}
use Rattle.ring_poly.specs.Ring.{IsCongruent, weighted}
use Rattle.ring_poly.proofs.Weighted.{weighted_more}
use Rattle.ring_poly.proofs.Congruences.{IsCongruent-same, IsCongruent-then}
use Rattle.ring_solve.specs.Elimination.{numbers_from, Vanishes, VanishesAtEach, IsBasis}
use Rattle.ring_solve.specs.Steps.{SolvesBefore}

-- numbers that are all at least 1
pub length-le-sum : (xs : List ℕ) → ((k : ℕ) → k < length xs → 1 ≤ slice_index xs k) → length xs ≤ sum xs
length-le-sum [] h = omega arith
length-le-sum (x ∷ xs) h =
    let here = h 0 (omega arith) in
    let rest = length-le-sum xs (λ k lt. h (suc k) (omega arith)) in
    omega (arith, sum_by-cons (λ y. y) x xs)

-- one more term of a sum of natural numbers
pub sum_step : (x basis : List ℕ) (at j s : ℕ) → j < length x → pos s ≡ weighted (take j (map pos x)) (numbers_from basis at)
    → pos (s + slice_index basis (at + j) * slice_index x j) ≡ weighted (take (j + 1) (map pos x)) (numbers_from basis at)
sum_step x basis at j s lt e =
    let len = length-map x pos in
    let more = weighted_more (map pos x) j (numbers_from basis at) (omega arith) in
    let here : get_or (map pos x) j (pos 0) ≡ pos (slice_index x j) = get_or-map pos x j 0 (pos 0) lt in
    let there : get_or (map pos x) j (pos 0) *ℤ numbers_from basis at j ≡ pos (slice_index x j) *ℤ pos (slice_index basis (at + j)) = ap (λ z. z *ℤ numbers_from basis at j) here in
    let both = pos-*ℤ-pos (slice_index x j) (slice_index basis (at + j)) in
    omega (arith, ints)

-- a number written over a 0 adds its own term
pub weighted_set : (xs : List ℕ) (i v : ℕ) (g : ℕ → ℤ) → i < length xs → slice_index xs i ≡ 0 → weighted (map pos (set xs i v)) g ≡ weighted (map pos xs) g +ℤ pos v *ℤ g i
weighted_set [] i v g lt e = absurd (omega arith)
weighted_set (x ∷ xs) zero v g lt e =
    let z : pos x *ℤ g 0 ≡ pos 0 = ap (λ n. pos n *ℤ g 0) e ∙ zero-*ℤ (g 0) in
    omega (arith, ints)
weighted_set (x ∷ xs) (suc i) v g lt e =
    let h = weighted_set xs i v (λ j. g (suc j)) (omega arith) e in
    omega (arith, ints)

pub solved_same : (m k v : ℕ) (x basis : List ℕ) (at : ℕ) → k < length x → slice_index x k ≡ 0 → slice_index basis (at + k) ≡ 0 → Vanishes m (map pos x) basis at → Vanishes m (map pos (set x k v)) basis at
solved_same m k v x basis at lt e none h =
    let s = weighted_set x k v (numbers_from basis at) lt e in
    let z : pos v *ℤ numbers_from basis at k ≡ pos 0 = ap (λ n. pos v *ℤ pos n) none ∙ *ℤ-zero (pos v) in
    IsCongruent-then (pos m) _ _ _ (IsCongruent-same (pos m) _ (weighted (map pos x) (numbers_from basis at)) (omega (arith, ints))) h

pub solved_here : (m k v s : ℕ) (x basis : List ℕ) (at : ℕ) → k < length x → slice_index x k ≡ 0 → slice_index basis (at + k) ≡ 1 → pos s ≡ weighted (map pos x) (numbers_from basis at)
    → IsCongruent (pos m) (pos (s + v)) (pos 0) → Vanishes m (map pos (set x k v)) basis at
solved_here m k v s x basis at lt e one is h =
    let t = weighted_set x k v (numbers_from basis at) lt e in
    let z : pos v *ℤ numbers_from basis at k ≡ pos (v * 1) = ap (λ n. pos v *ℤ pos n) one ∙ pos-*ℤ-pos v 1 in
    IsCongruent-then (pos m) _ _ _ (IsCongruent-same (pos m) _ (pos (s + v)) (omega (arith, ints))) h

-- each product is 0
pub weighted_none : (xs : List ℕ) (g : ℕ → ℤ) → ((j : ℕ) → j < length xs → pos (slice_index xs j) *ℤ g j ≡ pos 0) → weighted (map pos xs) g ≡ pos 0
weighted_none [] g h = refl
weighted_none (x ∷ xs) g h =
    let here = h 0 (omega arith) in
    let rest = weighted_none xs (λ j. g (suc j)) (λ j lt. h (suc j) (omega arith)) in
    omega (arith, ints)

-- the rows of columns after the free one meet only zeros
pub each_vanishes : (m w free : ℕ) (x basis kept : List ℕ) → IsBasis m w basis kept → length x ≡ w → slice_index kept free ≡ 0
    → SolvesBefore m w free basis x → VanishesAtEach m w basis kept (map pos x)
each_vanishes m w free x basis kept b len none s c lt one =
    ⊎_elim (λ same. let e = ap (slice_index kept) same in absurd (omega arith))
    (λ apart. ⊎_elim (λ below. s.vanishes c below)
    (λ above. IsCongruent-same (pos m) _ (pos 0) (weighted_none x (numbers_from basis (c * w)) (λ j j_lt.
    ⊎_elim (λ left. ap (λ n. pos (slice_index x j) *ℤ pos n) (b.before c j lt left) ∙ *ℤ-zero (pos (slice_index x j)))
    (λ right. ap (λ n. pos n *ℤ numbers_from basis (c * w) j) (s.beyond j (omega arith)) ∙ zero-*ℤ (numbers_from basis (c * w) j))
    (cases_lt j c))))
    apart)
    (cases_order c free)

pub set_below : (m : ℕ) (xs : List ℕ) (i v : ℕ) → v < m → ((j : ℕ) → slice_index xs j < m) → (j : ℕ) → slice_index (set xs i v) j < m
set_below m xs i v lt h j =
    let P : ℕ → Type 0 = λ x. x < m in
    ⊎_elim (λ inside. ⊎_elim
    (λ same. subst P (sym (ap (slice_index (set xs i v)) same ∙ get_or-set_same xs i v 0 inside)) lt)
    (λ other. subst P (sym (get_or-set_other xs i j v 0 other)) (h j))
    (cases_eq j i))
    (λ past. subst P (sym (ap (λ ys. slice_index ys j) (set_past xs i v past))) (h j))
    (cases_lt i (length xs))
