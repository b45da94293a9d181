-- What the answer's product is.
use Rattle.std.proofs.Common.{◌≡◌, ℕ, zero, suc, ◌+◌, ◌-◌, ◌*◌, ◌%◌, ◌<◌, ◌≤◌, List, [], ◌∷◌, length, slice_index, map, sum, ⊎_elim, ℤ, pos, negsuc, ◌+ℤ◌, ◌*ℤ◌, refl, sym, ap, subst, ◌∙◌, arith}
use Rattle.std.proofs.lemmas.Int.{ints}
use Rattle.std.proofs.lemmas.Bool.{cases_lt}
use Rattle.std.proofs.lemmas.List.Sums.{sum_by-cons}
use Rattle.std.proofs.lemmas.List.{length-map, get_or-map, length-replicate, get_or-replicate}
use Rattle.std.proofs.Math.IntN.{*ℤ_comm, *ℤ-zero, zero-*ℤ, pos-*ℤ-pos, negsuc-*ℤ-pos}
use Rattle.std.proofs.Common.{w32, to_z, of_z}
use Rattle.std.specs.Int.{w16}
use Rattle.std.proofs.Math.IntN.{nat_abs}
use borrow.Author.Differences.{abs_is}
use Rattle.ring_poly.specs.Ring.{IsCongruent, AreCongruent, IsCentred, IsWithin, weighted, coefficient, product}
use Rattle.ring_poly.proofs.Integers.{mul_assoc, mul-add}
use Rattle.ring_poly.proofs.Weighted.{entry}
use Rattle.ring_poly.proofs.WindowSums.{coefficient-product, length-product}
use Rattle.ring_poly.proofs.Commutes.{product_comm}
use Rattle.ring_poly.proofs.Congruences.{IsCongruent-same, IsCongruent-back, IsCongruent-then, IsCongruent-add, IsCongruent-mul, IsCongruent-onto, times_one}
use Rattle.ring_solve.specs.Elimination.{numbers_from, Vanishes, IsBasis}
use Rattle.ring_solve.specs.Fields.{one, zero_of}
use Rattle.ring_solve.proofs.Residues.{rest_congruent}
use Rattle.ring_solve.proofs.Eliminates.{rest_is, weighted_congruent, times_zero}

-- a sum over numbers that are s times others
weighted_first : (m s : ℤ) (b z : List ℤ) (g : ℕ → ℤ) → length b ≡ length z → ((j : ℕ) → j < length b → IsCongruent m (coefficient b j) (s *ℤ coefficient z j)) → IsCongruent m (weighted b g) (s *ℤ weighted z g)
weighted_first m s [] [] g len h = IsCongruent-same m (pos 0) (s *ℤ pos 0) (sym (*ℤ-zero s))
weighted_first m s (x ∷ b) (y ∷ z) g len h =
    let here : IsCongruent m (g 0 *ℤ x) (g 0 *ℤ (s *ℤ y)) = IsCongruent-mul m (g 0) x (s *ℤ y) (h 0 (omega arith)) in
    let first : IsCongruent m (x *ℤ g 0) (s *ℤ (y *ℤ g 0)) =
    IsCongruent-then m _ (g 0 *ℤ x) _ (IsCongruent-same m _ _ (*ℤ_comm x (g 0))) (IsCongruent-onto m _ (g 0 *ℤ (s *ℤ y)) _ here (*ℤ_comm (g 0) (s *ℤ y) ∙ mul_assoc s y (g 0))) in
    let rest = weighted_first m s b z (λ j. g (suc j)) (omega arith) (λ j lt. h (suc j) (omega arith)) in
    IsCongruent-onto m _ (s *ℤ (y *ℤ g 0) +ℤ s *ℤ weighted z (λ j. g (suc j))) _ (IsCongruent-add m _ _ _ _ first rest) (sym (mul-add s (y *ℤ g 0) (weighted z (λ j. g (suc j)))))
weighted_first m s [] (y ∷ z) g len h = absurd (omega arith)
weighted_first m s (x ∷ b) [] g len h = absurd (omega arith)

-- the product with s times a polynomial, modulo m
pub product_times : (m s : ℤ) (p : ℕ) (a b z : List ℤ) → length b ≡ p → length z ≡ p → ((j : ℕ) → j < p → IsCongruent m (coefficient b j) (s *ℤ coefficient z j))
    → (k : ℕ) → k < p → IsCongruent m (coefficient (product p a b) k) (s *ℤ coefficient (product p a z) k)
product_times m s p a b z lb lz h k lt =
    let left : coefficient (product p a b) k ≡ weighted b (entry p a k) = ap (λ xs. coefficient xs k) (product_comm p a b) ∙ coefficient-product p b a k lt in
    let right : coefficient (product p a z) k ≡ weighted z (entry p a k) = ap (λ xs. coefficient xs k) (product_comm p a z) ∙ coefficient-product p z a k lt in
    IsCongruent-then m _ (weighted b (entry p a k)) _ (IsCongruent-same m _ _ left)
    (IsCongruent-onto m _ (s *ℤ weighted z (entry p a k)) _ (weighted_first m s b z (entry p a k) (omega arith) (λ j below. h j (omega arith))) (ap (λ x. s *ℤ x) (sym right)))

-- the rows of the elimination are the coefficients from 1 on
pub row_coefficient : (m p : ℕ) (a numbers : List ℤ) (x residues : List ℕ) (k : ℕ) → length x ≡ p
    → ((b : List ℤ) (k : ℕ) → length b ≡ p → 0 < k → k < p → coefficient (product p a b) k ≡ weighted b (λ j. coefficient numbers (p - 1 - k + j)))
    → ((j : ℕ) → j + 1 < 2 * p → IsCongruent (pos m) (pos (slice_index residues j)) (coefficient numbers j))
    → 0 < k → k < p → Vanishes m (map pos x) residues (p - 1 - k) → IsCongruent (pos m) (coefficient (product p a (map pos x)) k) (pos 0)
row_coefficient m p a numbers x residues k len rows same some lt v =
    let l = length-map x pos in
    IsCongruent-then (pos m) _ (weighted (map pos x) (λ j. coefficient numbers (p - 1 - k + j))) _ (IsCongruent-same (pos m) _ _ (rows (map pos x) k (omega arith) some lt))
    (IsCongruent-then (pos m) _ (weighted (map pos x) (numbers_from residues (p - 1 - k))) _
    (IsCongruent-back (pos m) _ _ (weighted_congruent (pos m) (map pos x) (numbers_from residues (p - 1 - k)) (λ j. coefficient numbers (p - 1 - k + j)) (λ j below. same (p - 1 - k + j) (omega arith)))) v)

-- a centred multiple of m is 0
pub centred_zero : (m : ℕ) (c : ℤ) → IsCentred (pos m) c → IsCongruent (pos m) c (pos 0) → c ≡ pos 0
centred_zero m c w h = by_factor h.factor h.is
  where
    by_factor : (k : ℤ) → c ≡ pos 0 +ℤ k *ℤ pos m → c ≡ pos 0
    by_factor (pos zero) e = let z = zero-*ℤ (pos m) in omega (arith, ints)
    by_factor (pos (suc n)) e = let p = pos-*ℤ-pos (suc n) m in let lo = w.0 in let hi = w.1 in absurd (omega (arith, ints))
    by_factor (negsuc n) e = let p = negsuc-*ℤ-pos n m in let lo = w.0 in let hi = w.1 in absurd (omega (arith, ints))

pub zero_congruent : (m : ℤ) (p : ℕ) (xs : List ℤ) → length xs ≡ p → ((k : ℕ) → k < p → IsCongruent m (coefficient xs k) (pos 0)) → AreCongruent m xs (zero_of p)
zero_congruent m p xs len h =
    let l = length-replicate p (pos 0) in
    record { len = omega arith; each = λ k lt. let below : k < p = omega arith in IsCongruent-onto m _ (pos 0) _ (h k below) (sym (get_or-replicate p k (pos 0) (pos 0) below)) }

pub one_congruent : (m : ℤ) (p : ℕ) (xs : List ℤ) → 0 < p → length xs ≡ p → IsCongruent m (coefficient xs 0) (pos 1) → ((k : ℕ) → 0 < k → k < p → IsCongruent m (coefficient xs k) (pos 0)) → AreCongruent m xs (one p)
one_congruent m p xs some len first further =
    let l = length-replicate (p - 1) (pos 0) in
    record { len = omega arith; each = λ k lt. by_place k (omega arith) }
  where
    by_place : (k : ℕ) → k < p → IsCongruent m (coefficient xs k) (coefficient (one p) k)
    by_place zero lt = first
    by_place (suc k) lt = let below : k < p - 1 = omega arith in IsCongruent-onto m _ (pos 0) _ (further (suc k) (omega arith) lt) (sym (get_or-replicate (p - 1) k (pos 0) (pos 0) below))

-- a list with a coefficient that is 1 modulo m isn't 0
pub not_zero : (m p j : ℕ) (z : List ℤ) → 1 < m → j < p → IsCongruent (pos m) (coefficient z j) (pos 1) → z ≡ zero_of p → ⊥
not_zero m p j z lt below h e =
    let at : coefficient z j ≡ pos 0 = ap (λ xs. coefficient xs j) e ∙ get_or-replicate p j (pos 0) (pos 0) below in
    let P : ℤ → Type 0 = λ c. IsCongruent (pos m) c (pos 1) in
    let r = rest_is m 0 1 lt (subst P at h) in
    omega arith

-- zeros are a basis of no rows
pub blank_basis : (m w : ℕ) (basis kept : List ℕ) → 0 < m → length basis ≡ w * w → length kept ≡ w → ((k : ℕ) → slice_index basis k ≡ 0) → ((k : ℕ) → slice_index kept k ≡ 0) → IsBasis m w basis kept
blank_basis m w basis kept some len kept_len h g = record {
  len = len;
  kept_len = kept_len;
  below = λ k. let e = h k in omega arith;
  before = λ c j _ _. h (c * w + j);
  pivot = λ c _ one. let e = g c in absurd (omega arith);
  counts = λ c. let e = g c in omega arith;
}

pub sum-blank : (xs : List ℕ) → ((k : ℕ) → slice_index xs k ≡ 0) → sum xs ≡ 0
sum-blank [] h = refl
sum-blank (x ∷ xs) h = let e = h 0 in let r = sum-blank xs (λ k. h (suc k)) in omega (arith, sum_by-cons (λ y. y) x xs)

-- the unsigned number that the code makes of a sum of two coefficients
shifted_is : (m : ℕ) (v : ℤ) → m ≤ 4591 → 0 < m → IsWithin 4590 v → pos (nat_abs (to_z w32 (of_z w32 (to_z w32 (of_z w32 (to_z w16 (of_z w16 v))) +ℤ to_z w32 (of_z w32 (pos 4591 *ℤ to_z w32 m)))))) ≡ v +ℤ pos (4591 * m)
shifted_is m v small some w =
    let lo = w.0 in
    let hi = w.1 in
    let value : to_z w32 (of_z w32 (to_z w16 (of_z w16 v))) ≡ v = omega (arith, ints) in
    let plain : to_z w32 m ≡ pos m = omega (arith, ints) in
    let times : to_z w32 (of_z w32 (pos 4591 *ℤ to_z w32 m)) ≡ pos (4591 * m) = ap (λ z. to_z w32 (of_z w32 (pos 4591 *ℤ z))) plain ∙ (let e : to_z w32 (of_z w32 (pos (4591 * m))) ≡ pos (4591 * m) = omega (arith, ints) in e) in
    ap (λ z. pos (nat_abs (to_z w32 (of_z w32 (z +ℤ to_z w32 (of_z w32 (pos 4591 *ℤ to_z w32 m))))))) value
    ∙ ap (λ z. pos (nat_abs (to_z w32 (of_z w32 (v +ℤ z))))) times
    ∙ ap (λ z. pos (nat_abs z)) (let e : to_z w32 (of_z w32 (v +ℤ pos (4591 * m))) ≡ v +ℤ pos (4591 * m) = omega (arith, ints) in e)
    ∙ (let e : pos (nat_abs (v +ℤ pos (4591 * m))) ≡ v +ℤ pos (4591 * m) = omega (arith, ints, abs_is (v +ℤ pos (4591 * m))) in e)

pub residue_congruent : (m : ℕ) (v : ℤ) → m ≤ 4591 → 0 < m → IsWithin 4590 v → IsCongruent (pos m) (pos (nat_abs (to_z w32 (of_z w32 (to_z w32 (of_z w32 (to_z w16 (of_z w16 v))) +ℤ to_z w32 (of_z w32 (pos 4591 *ℤ to_z w32 m))))) % m)) v
residue_congruent m v small some w =
    IsCongruent-then (pos m) _ _ _ (rest_congruent m _)
    (record { factor = pos 4591; is = shifted_is m v small some w ∙ ap (λ z. v +ℤ z) (sym (pos-*ℤ-pos 4591 m)) })

-- The numbers that solve the rows from 1 on, centred, have the product 0, where coefficient 0 of it is 0.
abbrev pub DecidesKernel : ℕ → ℤ → Type 0
DecidesKernel m q = (p : ℕ) (a z y : List ℤ) (x : List ℕ) → 1 < m → 0 < p → length x ≡ p → length z ≡ p
    → ((j : ℕ) → j < length x → IsCongruent q (coefficient z j) (pos (1 * slice_index x j)))
    → (j : ℕ) × (j < p) × (slice_index x j ≡ 1)
    → ((k : ℕ) → 0 < k → k < p → IsCongruent (pos m) (coefficient (product p a (map pos x)) k) (pos 0))
    → AreCongruent q y (product p a z) → coefficient y 0 ≡ pos 0
    → AreCongruent q (product p a z) (zero_of p) × (z ≡ zero_of p → ⊥)

-- the product with s times the numbers
scaled_rows : (m s p : ℕ) (a z : List ℤ) (x : List ℕ) → length x ≡ p → length z ≡ p → ((j : ℕ) → j < length x → IsCongruent (pos m) (coefficient z j) (pos (s * slice_index x j)))
    → (k : ℕ) → k < p → IsCongruent (pos m) (coefficient (product p a z) k) (pos s *ℤ coefficient (product p a (map pos x)) k)
scaled_rows m s p a z x len lz h k lt =
    let l = length-map x pos in
    product_times (pos m) (pos s) p a z (map pos x) lz (omega arith) (λ j below.
    IsCongruent-onto (pos m) _ _ _ (h j (omega arith))
    (sym (ap (λ c. pos s *ℤ c) (let in_x : j < length x = omega arith in get_or-map pos x j 0 (pos 0) in_x) ∙ pos-*ℤ-pos s (slice_index x j)))) k lt

scaled_zero : (m s p : ℕ) (a z : List ℤ) (x : List ℕ) → length x ≡ p → length z ≡ p → ((j : ℕ) → j < length x → IsCongruent (pos m) (coefficient z j) (pos (s * slice_index x j)))
    → ((k : ℕ) → 0 < k → k < p → IsCongruent (pos m) (coefficient (product p a (map pos x)) k) (pos 0))
    → (k : ℕ) → 0 < k → k < p → IsCongruent (pos m) (coefficient (product p a z) k) (pos 0)
scaled_zero m s p a z x len lz h rows k some lt = IsCongruent-then (pos m) _ _ _ (scaled_rows m s p a z x len lz h k lt) (times_zero (pos m) (pos s) _ (rows k some lt))

decided_kernel_at : (m : ℕ) → DecidesKernel m (pos m)
decided_kernel_at m p a z y x lt some len lz h one_at rows is at =
    let l = length-product p a z in (
      zero_congruent (pos m) p (product p a z) l (λ k below. ⊎_elim
          (λ first. let e : 0 ≡ k = omega arith in
          let P : ℕ → Type 0 = λ i. IsCongruent (pos m) (coefficient (product p a z) i) (pos 0) in
          subst P e (IsCongruent-then (pos m) _ _ _ (IsCongruent-back (pos m) _ _ (is.each 0 (omega arith))) (IsCongruent-same (pos m) _ _ at)))
          (λ further. scaled_zero m 1 p a z x len lz h rows k further below)
          (cases_lt k 1)),
      not_zero m p one_at.0 z lt one_at.1
          (IsCongruent-onto (pos m) _ _ _ (h one_at.0 (let b = one_at.1 in omega arith)) (ap pos (let o = one_at.2 in omega arith))),
    )

pub decided_kernel : (m : ℕ) (q : ℤ) → pos m ≡ q → DecidesKernel m q
decided_kernel m q e = let P : ℤ → Type 0 = λ c. DecidesKernel m c in subst P e (decided_kernel_at m)

-- Divided by coefficient 0 of that product, the numbers have the product 1.
abbrev pub DecidesInverse : ℕ → ℤ → Type 0
DecidesInverse m q = (p : ℕ) (a w y z : List ℤ) (x : List ℕ) (s r : ℕ) → 0 < p → length x ≡ p → length w ≡ p → length z ≡ p
    → ((j : ℕ) → j < length x → IsCongruent q (coefficient w j) (pos (1 * slice_index x j)))
    → AreCongruent q y (product p a w)
    → IsCongruent (pos m) (pos r) (coefficient y 0)
    → IsCongruent (pos m) (pos (s * r)) (pos 1)
    → ((j : ℕ) → j < length x → IsCongruent q (coefficient z j) (pos (s * slice_index x j)))
    → ((k : ℕ) → 0 < k → k < p → IsCongruent (pos m) (coefficient (product p a (map pos x)) k) (pos 0))
    → AreCongruent q (product p a z) (one p)

decided_inverse_at : (m : ℕ) → DecidesInverse m (pos m)
decided_inverse_at m p a w y z x s r some len lw lz hw is rest inverse hz rows =
    let base = coefficient (product p a (map pos x)) 0 in
    let lp = length-product p a w in
    let by_w : IsCongruent (pos m) (coefficient (product p a w) 0) base =
    IsCongruent-onto (pos m) _ (pos 1 *ℤ base) _ (scaled_rows m 1 p a w x len lw hw 0 some) (*ℤ_comm (pos 1) base ∙ times_one base) in
    let by_rest : IsCongruent (pos m) base (pos r) =
    IsCongruent-back (pos m) _ _ (IsCongruent-then (pos m) _ (coefficient y 0) _ rest (IsCongruent-then (pos m) _ (coefficient (product p a w) 0) _ (is.each 0 (omega arith)) by_w)) in
    let first : IsCongruent (pos m) (coefficient (product p a z) 0) (pos 1) =
    IsCongruent-then (pos m) _ (pos s *ℤ base) _ (scaled_rows m s p a z x len lz hz 0 some)
    (IsCongruent-then (pos m) _ (pos s *ℤ pos r) _ (IsCongruent-mul (pos m) (pos s) base (pos r) by_rest)
    (IsCongruent-then (pos m) _ (pos (s * r)) _ (IsCongruent-same (pos m) _ _ (pos-*ℤ-pos s r)) inverse)) in
    one_congruent (pos m) p (product p a z) some (length-product p a z) first (scaled_zero m s p a z x len lz hz rows)

pub decided_inverse : (m : ℕ) (q : ℤ) → pos m ≡ q → DecidesInverse m q
decided_inverse m q e = let P : ℤ → Type 0 = λ c. DecidesInverse m c in subst P e (decided_inverse_at m)

-- the rest of a centred number that isn't 0
pub some_rest : (m : ℕ) (q c : ℤ) (r : ℕ) → pos m ≡ q → IsCentred q c → (c ≡ pos 0 → ⊥) → IsCongruent (pos m) (pos r) c → 0 < r
some_rest m q c r e w ne h = ⊎_elim
    (λ zero_r. absurd (ne (centred_zero m c (let P : ℤ → Type 0 = λ d. IsCentred d c in subst P (sym e) w)
    (IsCongruent-then (pos m) _ (pos r) _ (IsCongruent-back (pos m) _ _ h) (IsCongruent-same (pos m) _ _ (ap pos (let z : r ≡ 0 = omega arith in z)))))))
    (λ some. some) (cases_lt r 1)
