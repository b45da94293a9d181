-- The numbers that the code writes for a give the products of a.
use Rattle.std.proofs.Common.{◌≡◌, ℕ, zero, suc, ◌+◌, ◌-◌, ◌*◌, ◌<◌, ◌≤◌, List, [], ◌∷◌, length, drop, ℤ, ◌+ℤ◌, ◌*ℤ◌, sym, ap, subst, ⊎_elim, ◌∙◌, arith}
use Rattle.std.proofs.lemmas.Bool.{cases_lt}
use Rattle.ring_poly.specs.Ring.{coefficient, product, weighted, IsWithin, IsCongruent, AreCongruent}
use Rattle.ring_poly.proofs.Integers.{Within-add, Within-more}
use Rattle.ring_poly.proofs.Weighted.{entry, weighted-same}
use Rattle.ring_poly.proofs.WindowSums.{length-product, coefficient_by_window, first_coefficient, number_low, number_mid, number_high}
use Rattle.ring_poly.proofs.Congruences.{IsCongruent-onto}
use Rattle.ring_poly.proofs.Commutes.{product_comm}

-- what stands at place m of the numbers
pub number_is_low : (p m : ℕ) (a : List ℤ) → length a ≡ p → m + 1 < p → entry p a (p - 1) m ≡ coefficient a (p - 1 - m)
number_is_low (suc q) m a len lt = ap (λ k. entry (suc q) a k m) (let e : suc q - 1 ≡ q = omega arith in e) ∙ number_low q m a (omega arith) (omega arith) ∙ ap (coefficient a) (omega arith)
number_is_low zero m a len lt = absurd (omega arith)

pub number_is_mid : (p m : ℕ) (a : List ℤ) → length a ≡ p → 1 < p → m + 1 ≡ p → entry p a (p - 1) m ≡ coefficient a 0 +ℤ coefficient a (p - 1)
number_is_mid (suc (suc q)) m a len lt e = ap (λ k. entry (suc (suc q)) a k m) (let f : suc (suc q) - 1 ≡ suc q = omega arith in f) ∙ number_mid q m a (omega arith) (omega arith) ∙ ap (λ k. coefficient a 0 +ℤ coefficient a k) (omega arith)
number_is_mid (suc zero) m a len lt e = absurd (omega arith)
number_is_mid zero m a len lt e = absurd (omega arith)

pub number_is_high : (p m : ℕ) (a : List ℤ) → p ≤ m → m + 1 < 2 * p → entry p a (p - 1) m ≡ coefficient a (2 * p - 1 - m) +ℤ coefficient a (2 * p - 2 - m)
number_is_high (suc q) m a le lt = ap (λ k. entry (suc q) a k m) (let f : suc q - 1 ≡ q = omega arith in f) ∙ number_high q m a (omega arith) (omega arith) ∙ ap (λ k. coefficient a k +ℤ coefficient a (q + q - m)) (omega arith) ∙ ap (λ k. coefficient a (2 * suc q - 1 - m) +ℤ coefficient a k) (omega arith)
number_is_high zero m a le lt = absurd (omega arith)

pub rows_are : (p : ℕ) (a numbers : List ℤ) → ((m : ℕ) → m + 1 < 2 * p → coefficient numbers m ≡ entry p a (p - 1) m)
    → (b : List ℤ) (k : ℕ) → length b ≡ p → 0 < k → k < p → coefficient (product p a b) k ≡ weighted b (λ j. coefficient numbers (p - 1 - k + j))
rows_are p a numbers h b k len low high =
    ap (λ xs. coefficient xs k) (product_comm p a b)
    ∙ coefficient_by_window p b a k low high
    ∙ sym (weighted-same b (λ j. coefficient numbers (p - 1 - k + j)) (λ j. entry p a (p - 1) (p - 1 - k + j)) (λ j lt. h (p - 1 - k + j) (omega arith)))

pub first_is : (p : ℕ) (a numbers : List ℤ) → length a ≡ p → ((m : ℕ) → m + 1 < 2 * p → coefficient numbers m ≡ entry p a (p - 1) m)
    → (c : ℤ) (b : List ℤ) → length b + 1 ≡ p → coefficient (product p a (c ∷ b)) 0 ≡ c *ℤ coefficient a 0 +ℤ weighted b (coefficient numbers)
first_is (suc q) a numbers len_a h c b len =
    ap (λ xs. coefficient xs 0) (product_comm (suc q) a (c ∷ b))
    ∙ first_coefficient q c b a (omega arith) (omega arith)
    ∙ ap (λ x. c *ℤ coefficient a 0 +ℤ x) (sym (weighted-same b (coefficient numbers) (entry (suc q) a q) (λ j lt.
    h j (omega arith) ∙ ap (λ k. entry (suc q) a k j) (let f : suc q - 1 ≡ q = omega arith in f))))
first_is zero a numbers len_a h c b len = absurd (omega arith)

-- what the code writes at place m
pub number_is : (p m : ℕ) (a : List ℤ) (r : ℤ) → length a ≡ p → 1 < p → m + 1 < 2 * p
    → (m + 1 < p → r ≡ coefficient a (p - 1 - m))
    → (m + 1 ≡ p → r ≡ coefficient a 0 +ℤ coefficient a (p - 1))
    → (p ≤ m → r ≡ coefficient a (2 * p - 1 - m) +ℤ coefficient a (2 * p - 2 - m))
    → r ≡ entry p a (p - 1) m
number_is p m a r len lt in_range low mid high =
    ⊎_elim (λ below. low below ∙ sym (number_is_low p m a len below))
    (λ above. ⊎_elim (λ beyond. high (omega arith) ∙ sym (number_is_high p m a (omega arith) in_range))
    (λ at. mid (omega arith) ∙ sym (number_is_mid p m a len lt (omega arith))) (cases_lt p (m + 1)))
    (cases_lt (m + 1) p)

pub number_within : (p m : ℕ) (a : List ℤ) (r : ℤ) → ((j : ℕ) → IsWithin 2295 (coefficient a j))
    → (m + 1 < p → r ≡ coefficient a (p - 1 - m))
    → (m + 1 ≡ p → r ≡ coefficient a 0 +ℤ coefficient a (p - 1))
    → (p ≤ m → r ≡ coefficient a (2 * p - 1 - m) +ℤ coefficient a (2 * p - 2 - m))
    → IsWithin 4590 r
number_within p m a r w low mid high =
    let P : ℤ → Type 0 = λ x. IsWithin 4590 x in
    ⊎_elim (λ below. subst P (sym (low below)) (Within-more 2295 4590 _ (omega arith) (w (p - 1 - m))))
    (λ above. ⊎_elim (λ beyond. subst P (sym (high (omega arith))) (Within-add 2295 2295 _ _ (w (2 * p - 1 - m)) (w (2 * p - 2 - m))))
    (λ at. subst P (sym (mid (omega arith))) (Within-add 2295 2295 _ _ (w 0) (w (p - 1)))) (cases_lt p (m + 1)))
    (cases_lt (m + 1) p)

-- the coefficients of the code are those of the product
pub product_congruent : (m : ℤ) (p : ℕ) (a b out numbers : List ℤ) → 1 < p → length b ≡ p → length out ≡ p
    → ((b : List ℤ) (k : ℕ) → length b ≡ p → 0 < k → k < p → coefficient (product p a b) k ≡ weighted b (λ j. coefficient numbers (p - 1 - k + j)))
    → ((c : ℤ) (b : List ℤ) → length b + 1 ≡ p → coefficient (product p a (c ∷ b)) 0 ≡ c *ℤ coefficient a 0 +ℤ weighted b (coefficient numbers))
    → IsCongruent m (coefficient out 0) (coefficient b 0 *ℤ coefficient a 0 +ℤ weighted (drop 1 b) (coefficient numbers))
    → ((k : ℕ) → 0 < k → k < p → IsCongruent m (coefficient out k) (weighted b (λ j. coefficient numbers (p - 1 - k + j))))
    → AreCongruent m out (product p a b)
product_congruent m p a [] out numbers lt len len_out rows first here further = absurd (omega arith)
product_congruent m p a (c ∷ b) out numbers lt len len_out rows first here further =
    let size = length-product p a (c ∷ b) in
    record {
      len = omega arith;
      each = λ k below. ⊎_elim
          (λ zero_k. subst (λ (i : ℕ). IsCongruent m (coefficient out i) (coefficient (product p a (c ∷ b)) i)) (let e : 0 ≡ k = omega arith in e)
          (IsCongruent-onto m (coefficient out 0) (c *ℤ coefficient a 0 +ℤ weighted b (coefficient numbers)) (coefficient (product p a (c ∷ b)) 0) here (sym (first c b (omega arith)))))
          (λ pos_k. IsCongruent-onto m (coefficient out k) (weighted (c ∷ b) (λ j. coefficient numbers (p - 1 - k + j))) (coefficient (product p a (c ∷ b)) k) (further k pos_k (omega arith)) (sym (rows (c ∷ b) k len pos_k (omega arith))))
          (cases_lt k 1);
    }
