-- The numbers whose windows are the rows of a multiplication.
use Rattle.std.proofs.Common.{◌≡◌, ℕ, zero, suc, ◌+◌, ◌-◌, ◌<◌, ◌≤◌, List, ◌∷◌, length, ℤ, pos, ◌+ℤ◌, ◌*ℤ◌, refl, sym, ap, ◌∙◌, arith}
use Rattle.std.proofs.lemmas.Int.{ints}
use Rattle.std.proofs.lemmas.List.{get_or_past}
use Rattle.std.proofs.lemmas.List.FromFn.{get_or-map-range_with_len, length-map-range_with_len}
use Rattle.ring_poly.specs.Ring.{coefficient, convolution, reduced, product, weighted}
use Rattle.ring_poly.proofs.Weighted.{back, entry, reduced_is, weighted-same}

pub length-product : (p : ℕ) (a b : List ℤ) → length (product p a b) ≡ p
length-product p a b = length-map-range_with_len (reduced p (convolution a b)) 0 p

pub coefficient-product : (p : ℕ) (a b : List ℤ) (k : ℕ) → k < p → coefficient (product p a b) k ≡ weighted a (entry p b k)
coefficient-product p a b k lt = get_or-map-range_with_len (reduced p (convolution a b)) 0 p k k (pos 0) lt (omega arith) ∙ reduced_is p a b k

-- both places up by one leave the coefficient
pub back_up : (b : List ℤ) (k j s : ℕ) → back b (k + s) (j + s) ≡ back b k j
unfolding back
back_up b k j zero = ap (λ (q : ℕ × ℕ). back b q.0 q.1) (let e : k + zero ≡ k = omega arith in let f : j + zero ≡ j = omega arith in λ i. (e i, f i))
back_up b k j (suc s) = (let e : k + suc s ≡ suc (k + s) = omega arith in let f : j + suc s ≡ suc (j + s) = omega arith in ap (λ (q : ℕ × ℕ). back b q.0 q.1) (λ i. (e i, f i))) ∙ back_up b k j s

-- at or below k
pub back_low : (b : List ℤ) (k j i : ℕ) → i + j ≡ k → back b k j ≡ coefficient b i
unfolding back
back_low b k j i e = (let f : k ≡ i + j = sym e in let g : j ≡ 0 + j = omega arith in ap (λ (q : ℕ × ℕ). back b q.0 q.1) (λ t. (f t, g t))) ∙ back_up b i 0 j

-- above k
pub back_high : (b : List ℤ) (k j : ℕ) → k < j → back b k j ≡ pos 0
unfolding back
back_high b k zero lt = absurd (omega arith)
back_high b zero (suc j) lt = refl
back_high b (suc k) (suc j) lt = back_high b k j (omega arith)

-- past the end of b
pub back_past : (b : List ℤ) (k j : ℕ) → length b + j ≤ k → back b k j ≡ pos 0
back_past b k j le = back_low b k j (k - j) (omega arith) ∙ get_or_past b (k - j) (pos 0) (omega arith)

-- a row further down is a window further left
pub entry_window : (p : ℕ) (b : List ℤ) (k j s : ℕ) → entry p b (suc k) j ≡ entry p b (suc (k + s)) (j + s)
unfolding entry
entry_window p b k j s =
    let one = back_up b (suc k) j s in
    let two = back_up b (p + suc k) j s in
    let three = back_up b (p + k) j s in
    let e1 : suc k + s ≡ suc (k + s) = omega arith in
    let e2 : p + suc k + s ≡ p + suc (k + s) = omega arith in
    let e3 : p + k + s ≡ p + (k + s) = omega arith in
    let f1 = ap (λ x. back b x (j + s)) e1 in
    let f2 = ap (λ x. back b x (j + s)) e2 in
    let f3 = ap (λ x. back b x (j + s)) e3 in
    omega (arith, ints)

-- The numbers: m below p - 1, m at p - 1, and m above it
pub number_low : (q m : ℕ) (b : List ℤ) → length b ≤ suc q → m < q → entry (suc q) b q m ≡ coefficient b (q - m)
unfolding entry
number_low (suc q) m b len lt =
    let one = back_low b (suc q) m (suc q - m) (omega arith) in
    let two = back_past b (suc (suc q) + suc q) m (omega arith) in
    let three = back_past b (suc (suc q) + q) m (omega arith) in
    omega (arith, ints)
number_low zero m b len lt = absurd (omega arith)

pub number_mid : (q m : ℕ) (b : List ℤ) → length b ≤ suc (suc q) → m ≡ suc q → entry (suc (suc q)) b (suc q) m ≡ coefficient b 0 +ℤ coefficient b (suc q)
unfolding entry
number_mid q m b len e =
    let one = back_low b (suc q) m 0 (omega arith) in
    let two = back_past b (suc (suc q) + suc q) m (omega arith) in
    let three = back_low b (suc (suc q) + q) m (suc q) (omega arith) in
    omega (arith, ints)

pub number_high : (q m : ℕ) (b : List ℤ) → q < m → m ≤ q + q → entry (suc q) b q m ≡ coefficient b (suc q + q - m) +ℤ coefficient b (q + q - m)
unfolding entry
number_high (suc q) m b lt le =
    let one = back_high b (suc q) m (omega arith) in
    let two = back_low b (suc (suc q) + suc q) m (suc (suc q) + suc q - m) (omega arith) in
    let three = back_low b (suc (suc q) + q) m (suc q + suc q - m) (omega arith) in
    omega (arith, ints)
number_high zero m b lt le = absurd (omega arith)

-- a coefficient from the first on is the sum over a window
pub coefficient_by_window : (p : ℕ) (a b : List ℤ) (k : ℕ) → 0 < k → k < p → coefficient (product p a b) k ≡ weighted a (λ j. entry p b (p - 1) (p - 1 - k + j))
coefficient_by_window p a b (suc k) pos_k lt =
    coefficient-product p a b (suc k) lt
    ∙ weighted-same a (entry p b (suc k)) (λ j. entry p b (p - 1) (p - 1 - suc k + j)) (λ j _.
    entry_window p b k j (p - 1 - suc k)
    ∙ (let e : suc (k + (p - 1 - suc k)) ≡ p - 1 = omega arith in let f : j + (p - 1 - suc k) ≡ p - 1 - suc k + j = omega arith in ap (λ (q : ℕ × ℕ). entry p b q.0 q.1) (λ t. (e t, f t))))
coefficient_by_window p a b zero pos_k lt = absurd (omega arith)

-- coefficient 0 is the sum over the window before the first, without its first place, and one product
pub first_coefficient : (q : ℕ) (c : ℤ) (a b : List ℤ) → length a ≡ q → length b ≤ suc q → coefficient (product (suc q) (c ∷ a) b) 0 ≡ c *ℤ coefficient b 0 +ℤ weighted a (entry (suc q) b q)
unfolding entry
first_coefficient q c a b len lenb =
    coefficient-product (suc q) (c ∷ a) b 0 (omega arith)
    ∙ (let here : entry (suc q) b 0 0 ≡ coefficient b 0 =
    (let two = back_past b (suc q + 0) 0 (omega arith) in let one = back_low b 0 0 0 (omega arith) in omega (arith, ints)) in
    let rest = weighted-same a (λ j. entry (suc q) b 0 (suc j)) (entry (suc q) b q) (λ j lt.
    (let one = back_high b 0 (suc j) (omega arith) in
    let two = back_low b (suc q + 0) (suc j) (q - j) (omega arith) in
    let low = number_low q j b lenb (omega arith) in
    omega (arith, ints))) in
    ap (λ x. c *ℤ x +ℤ weighted a (λ j. entry (suc q) b 0 (suc j))) here ∙ ap (λ x. c *ℤ coefficient b 0 +ℤ x) rest)
