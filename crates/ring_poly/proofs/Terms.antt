-- The terms of the plain convolution.
use Rattle.std.proofs.Common.{◌≡◌, ℕ, zero, suc, ◌+◌, ◌-◌, ◌<◌, ◌≤◌, List, length, take, ℤ, pos, ◌+ℤ◌, ◌*ℤ◌, ⊎_elim, sym, ap, subst, ◌∙◌, arith}
use Rattle.std.proofs.lemmas.Bool.{cases_lt}
use Rattle.std.proofs.lemmas.List.{ext_get_or}
use Rattle.std.proofs.lemmas.List.FromFn.{get_or-map-range_with_len}
use Rattle.ring_poly.specs.Ring.{coefficient, convolution, reduced, product, weighted, IsWithin as Within}
use Rattle.ring_poly.proofs.Integers.{Within-zero}
use Rattle.ring_poly.proofs.Weighted.{back, weighted_more}
use Rattle.ring_poly.proofs.WindowSums.{back_low, back_high, length-product}

pub met_is : (b : List ℤ) (k i : ℕ) (r : ℤ) → (i ≤ k → r ≡ coefficient b (k - i)) → (k < i → r ≡ pos 0) → r ≡ back b k i
met_is b k i r low high =
    ⊎_elim (λ above. high above ∙ sym (back_high b k i above))
    (λ below. low below ∙ sym (back_low b k i (k - i) (omega arith)))
    (cases_lt k i)

pub back_within : (n : ℕ) (b : List ℤ) → ((j : ℕ) → Within n (coefficient b j)) → (k j : ℕ) → Within n (back b k j)
unfolding back
back_within n b w k zero = w k
back_within n b w zero (suc j) = Within-zero n
back_within n b w (suc k) (suc j) = back_within n b w k j

pub met_within : (b : List ℤ) (k i : ℕ) (r : ℤ) → ((j : ℕ) → Within 2295 (coefficient b j)) → (i ≤ k → r ≡ coefficient b (k - i)) → (k < i → r ≡ pos 0) → Within 2295 r
met_within b k i r w low high = let P : ℤ → Type 0 = λ x. Within 2295 x in subst P (sym (met_is b k i r low high)) (back_within 2295 b w k i)

-- one more term
pub one_more : (a b : List ℤ) (k i : ℕ) (r : ℤ) → i < length a → (i ≤ k → r ≡ coefficient b (k - i)) → (k < i → r ≡ pos 0)
    → weighted (take (i + 1) a) (back b k) ≡ weighted (take i a) (back b k) +ℤ coefficient a i *ℤ r
one_more a b k i r lt low high = weighted_more a i (back b k) lt ∙ ap (λ x. weighted (take i a) (back b k) +ℤ coefficient a i *ℤ x) (sym (met_is b k i r low high))

-- a coefficient of the reduction, from 1 on
pub reduced_at : (p : ℕ) (a b : List ℤ) (k n : ℕ) → n + 1 ≡ p + k → 0 < k → reduced p (convolution a b) k ≡ (convolution a b k +ℤ convolution a b (p + k)) +ℤ convolution a b n
reduced_at p a b (suc k) n e some = ap (λ j. (convolution a b (suc k) +ℤ convolution a b (p + suc k)) +ℤ convolution a b j) (let f : p + k ≡ n = omega arith in f)
reduced_at p a b zero n e some = absurd (omega arith)

-- p coefficients of the reduction are the product
pub product_by : (p : ℕ) (a b out : List ℤ) → length out ≡ p → ((k : ℕ) → k < p → coefficient out k ≡ reduced p (convolution a b) k) → out ≡ product p a b
product_by p a b out len h =
    let l = length-product p a b in
    ext_get_or (pos 0) out (product p a b) (omega arith) (λ k below.
    h k (omega arith) ∙ sym (get_or-map-range_with_len (reduced p (convolution a b)) 0 p k k (pos 0) (omega arith) (omega arith)))
