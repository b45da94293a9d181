-- The map that multiplies by x, and the laws that follow from it.
use Rattle.std.proofs.Common.{◌≡◌, ℕ, zero, suc, ◌+◌, ◌-◌, ◌<◌, ◌≤◌, List, [], ◌∷◌, length, ℤ, pos, ◌+ℤ◌, ◌*ℤ◌, refl, sym, ap, ◌∙◌, arith}
use Rattle.std.proofs.lemmas.Int.{ints}
use Rattle.std.proofs.lemmas.List.{get_or_past, ext_get_or, length-map, get_or-map}
use Rattle.std.proofs.Math.IntN.{*ℤ_comm, *ℤ-zero, zero-*ℤ}
use Rattle.ring_poly.specs.Ring.{coefficient, shifted, convolution, reduced, product, weighted, IsCongruent, AreCongruent}
use Rattle.ring_poly.proofs.Integers.{mul_assoc, mul-add, add-mul, mul_swap}
use Rattle.ring_poly.proofs.Weighted.{weighted-same, weighted_zero, back, entry, convolution_is, reduced_is}
use Rattle.ring_poly.proofs.WindowSums.{coefficient-product, length-product, back_past}
use Rattle.ring_poly.proofs.Commutes.{product_comm}
use Rattle.ring_poly.proofs.Congruences.{IsCongruent-same, IsCongruent-then, IsCongruent-add, IsCongruent-mul, IsCongruent-onto}
use Rattle.ring_laws.specs.Laws.{sum_of, multiple_of}

-- the coefficients of x times a polynomial, modulo x^p - x - 1
turned : ℕ → (ℕ → ℤ) → ℕ → ℤ
turned p f zero = f (p - 1)
turned p f (suc zero) = f 0 +ℤ f (p - 1)
turned p f (suc (suc k)) = f (suc k)

-- the sum of each a_i times x^i f
act : ℕ → List ℤ → (ℕ → ℤ) → ℕ → ℤ
act p [] f k = pos 0
act p (c ∷ a) f k = c *ℤ f k +ℤ turned p (act p a f) k

turned-ext : (p : ℕ) (f g : ℕ → ℤ) → ((k : ℕ) → f k ≡ g k) → (k : ℕ) → turned p f k ≡ turned p g k
turned-ext p f g h k = λ i. turned p (λ n. h n i) k

turned-add : (p : ℕ) (f g : ℕ → ℤ) (k : ℕ) → turned p (λ n. f n +ℤ g n) k ≡ turned p f k +ℤ turned p g k
unfolding turned
turned-add p f g zero = refl
turned-add p f g (suc zero) = omega (arith, ints)
turned-add p f g (suc (suc k)) = refl

turned-times : (p : ℕ) (c : ℤ) (f : ℕ → ℤ) (k : ℕ) → turned p (λ n. c *ℤ f n) k ≡ c *ℤ turned p f k
unfolding turned
turned-times p c f zero = refl
turned-times p c f (suc zero) = sym (mul-add c (f 0) (f (p - 1)))
turned-times p c f (suc (suc k)) = refl

turned-same : (p : ℕ) (f g : ℕ → ℤ) → 1 < p → ((k : ℕ) → k < p → f k ≡ g k) → (k : ℕ) → k < p → turned p f k ≡ turned p g k
unfolding turned
turned-same p f g lt h zero below = h (p - 1) (omega arith)
turned-same p f g lt h (suc zero) below = let a = h 0 (omega arith) in let b = h (p - 1) (omega arith) in omega (arith, ints)
turned-same p f g lt h (suc (suc k)) below = h (suc k) (omega arith)

act-add : (p : ℕ) (a : List ℤ) (f g : ℕ → ℤ) (k : ℕ) → act p a (λ n. f n +ℤ g n) k ≡ act p a f k +ℤ act p a g k
unfolding act
act-add p [] f g k = refl
act-add p (c ∷ a) f g k =
    let here = mul-add c (f k) (g k) in
    let rest = turned-ext p (act p a (λ n. f n +ℤ g n)) (λ n. act p a f n +ℤ act p a g n) (act-add p a f g) k ∙ turned-add p (act p a f) (act p a g) k in
    omega (arith, ints)

act-times : (p : ℕ) (a : List ℤ) (d : ℤ) (f : ℕ → ℤ) (k : ℕ) → act p a (λ n. d *ℤ f n) k ≡ d *ℤ act p a f k
unfolding act
act-times p [] d f k = sym (*ℤ-zero d)
act-times p (c ∷ a) d f k =
    let here = mul_swap c d (f k) in
    let rest = turned-ext p (act p a (λ n. d *ℤ f n)) (λ n. d *ℤ act p a f n) (act-times p a d f) k ∙ turned-times p d (act p a f) k in
    let whole = mul-add d (c *ℤ f k) (turned p (act p a f) k) in
    omega (arith, ints)

turned_zero : (p k : ℕ) → turned p (λ n. pos 0) k ≡ pos 0
unfolding turned
turned_zero p zero = refl
turned_zero p (suc zero) = refl
turned_zero p (suc (suc k)) = refl

act-turned : (p : ℕ) (a : List ℤ) (f : ℕ → ℤ) (k : ℕ) → act p a (turned p f) k ≡ turned p (act p a f) k
unfolding act
act-turned p [] f k = sym (turned_zero p k)
act-turned p (c ∷ a) f k =
    let rest = turned-ext p (act p a (turned p f)) (turned p (act p a f)) (act-turned p a f) k in
    let whole = turned-add p (λ n. c *ℤ f n) (turned p (act p a f)) k in
    let times = turned-times p c f k in
    omega (arith, ints)

act_zero : (p : ℕ) (b : List ℤ) (k : ℕ) → act p b (λ _. pos 0) k ≡ pos 0
act_zero p b k = act-times p b (pos 0) (λ _. pos 0) k ∙ zero-*ℤ (act p b (λ _. pos 0) k)

acts_commute : (p : ℕ) (a b : List ℤ) (f : ℕ → ℤ) (k : ℕ) → act p a (act p b f) k ≡ act p b (act p a f) k
unfolding act
acts_commute p [] b f k = sym (act_zero p b k)
acts_commute p (c ∷ a) b f k =
    let rest = turned-ext p (act p a (act p b f)) (act p b (act p a f)) (acts_commute p a b f) k in
    let inside = act-turned p b (act p a f) k in
    let times = act-times p b c f k in
    let whole = act-add p b (λ n. c *ℤ f n) (turned p (act p a f)) k in
    omega (arith, ints)

act-same : (p : ℕ) (a : List ℤ) (f g : ℕ → ℤ) → 1 < p → ((k : ℕ) → k < p → f k ≡ g k) → (k : ℕ) → k < p → act p a f k ≡ act p a g k
unfolding act
act-same p [] f g lt h k below = refl
act-same p (c ∷ a) f g lt h k below =
    let here = ap (λ x. c *ℤ x) (h k below) in
    let rest = turned-same p (act p a f) (act p a g) lt (act-same p a f g lt h) k below in
    omega (arith, ints)

convolution_high : (a b : List ℤ) (k : ℕ) → length a + length b ≤ k + 1 → convolution a b k ≡ pos 0
convolution_high a b k le = convolution_is a b k ∙ weighted-same a (back b k) (λ _. pos 0) (λ j lt. back_past b k j (omega arith)) ∙ weighted_zero a

pub coefficient_past : (b : List ℤ) (k : ℕ) → length b ≤ k → coefficient b k ≡ pos 0
coefficient_past b k le = get_or_past b k (pos 0) le

shifted_at : (f : ℕ → ℤ) (k j : ℕ) → k ≡ suc j → shifted f k ≡ f j
shifted_at f k j e = ap (shifted f) e

reduced_is_act : (p : ℕ) (a b : List ℤ) → 1 < p → length a ≤ p → length b ≤ p → (k : ℕ) → k < p → reduced p (convolution a b) k ≡ act p a (coefficient b) k
unfolding act turned
reduced_is_act p [] b lt la lb zero below = refl
reduced_is_act p [] b lt la lb (suc k) below = refl
reduced_is_act p (c ∷ a) b lt la lb zero below =
    let z = coefficient_past b (p + 0) (omega arith) in
    let t = ap (λ x. c *ℤ x) z ∙ *ℤ-zero c in
    let s = shifted_at (convolution a b) (p + 0) (p - 1) (omega arith) in
    let last = reduced_is_act p a b lt (omega arith) lb (p - 1) (omega arith) in
    let h1 = convolution_high a b (p + (p - 1)) (omega arith) in
    let s2 = shifted_at (λ i. convolution a b (p + i)) (p - 1) (p - 2) (omega arith) in
    let h2 = convolution_high a b (p + (p - 2)) (omega arith) in
    omega (arith, ints)
reduced_is_act p (c ∷ a) b lt la lb (suc zero) below =
    let z0 = ap (λ x. c *ℤ x) (coefficient_past b (p + 0) (omega arith)) ∙ *ℤ-zero c in
    let z1 = ap (λ x. c *ℤ x) (coefficient_past b (p + 1) (omega arith)) ∙ *ℤ-zero c in
    let s0 = shifted_at (convolution a b) (p + 0) (p - 1) (omega arith) in
    let s1 = shifted_at (convolution a b) (p + 1) (p + 0) (omega arith) in
    let first = reduced_is_act p a b lt (omega arith) lb 0 (omega arith) in
    let last = reduced_is_act p a b lt (omega arith) lb (p - 1) (omega arith) in
    let h1 = convolution_high a b (p + (p - 1)) (omega arith) in
    let s2 = shifted_at (λ i. convolution a b (p + i)) (p - 1) (p - 2) (omega arith) in
    let h2 = convolution_high a b (p + (p - 2)) (omega arith) in
    omega (arith, ints)
reduced_is_act p (c ∷ a) b lt la lb (suc (suc k)) below =
    let z0 = ap (λ x. c *ℤ x) (coefficient_past b (p + suc (suc k)) (omega arith)) ∙ *ℤ-zero c in
    let z1 = ap (λ x. c *ℤ x) (coefficient_past b (p + suc k) (omega arith)) ∙ *ℤ-zero c in
    let s0 = shifted_at (convolution a b) (p + suc (suc k)) (p + suc k) (omega arith) in
    let s1 = shifted_at (convolution a b) (p + suc k) (p + k) (omega arith) in
    let next = reduced_is_act p a b lt (omega arith) lb (suc k) (omega arith) in
    omega (arith, ints)

product_is_act : (p : ℕ) (a b : List ℤ) → 1 < p → length a ≤ p → length b ≤ p → (k : ℕ) → k < p → coefficient (product p a b) k ≡ act p a (coefficient b) k
product_is_act p a b lt la lb k below = coefficient-product p a b k below ∙ sym (reduced_is p a b k) ∙ reduced_is_act p a b lt la lb k below

pub product_assoc : (p : ℕ) (a b c : List ℤ) → 1 < p → length a ≡ p → length b ≡ p → length c ≡ p → product p (product p a b) c ≡ product p a (product p b c)
product_assoc p a b c lt la lb lc =
    let lab = length-product p a b in
    let lcb = length-product p c b in
    let left_len = length-product p (product p a b) c in
    let right_len = length-product p a (product p b c) in
    ext_get_or (pos 0) (product p (product p a b) c) (product p a (product p b c)) (omega arith) (λ k below.
    let lt_k : k < p = omega arith in
    ap (λ xs. coefficient xs k) (product_comm p (product p a b) c)
    ∙ product_is_act p c (product p a b) lt (omega arith) (omega arith) k lt_k
    ∙ act-same p c (coefficient (product p a b)) (act p a (coefficient b)) lt (product_is_act p a b lt (omega arith) (omega arith)) k lt_k
    ∙ acts_commute p c a (coefficient b) k
    ∙ sym (act-same p a (coefficient (product p c b)) (act p c (coefficient b)) lt (product_is_act p c b lt (omega arith) (omega arith)) k lt_k)
    ∙ sym (product_is_act p a (product p c b) lt (omega arith) (omega arith) k lt_k)
    ∙ ap (λ xs. coefficient (product p a xs) k) (product_comm p c b))

-- sums and multiples of the second factor
weighted-sum : (a b : List ℤ) (g : ℕ → ℤ) → length a ≡ length b → weighted (sum_of a b) g ≡ weighted a g +ℤ weighted b g
weighted-sum [] [] g e = refl
weighted-sum (c ∷ a) (d ∷ b) g e =
    let here = add-mul c d (g 0) in
    let rest = weighted-sum a b (λ j. g (suc j)) (omega arith) in
    omega (arith, ints)
weighted-sum [] (d ∷ b) g e = absurd (omega arith)
weighted-sum (c ∷ a) [] g e = absurd (omega arith)

pub length-sum_of : (a b : List ℤ) → length a ≡ length b → length (sum_of a b) ≡ length a
length-sum_of [] b e = refl
length-sum_of (c ∷ a) (d ∷ b) e = let r = length-sum_of a b (omega arith) in omega arith
length-sum_of (c ∷ a) [] e = absurd (omega arith)

pub coefficient-sum_of : (a b : List ℤ) (k : ℕ) → length a ≡ length b → coefficient (sum_of a b) k ≡ coefficient a k +ℤ coefficient b k
coefficient-sum_of [] [] k e = refl
coefficient-sum_of (c ∷ a) (d ∷ b) zero e = refl
coefficient-sum_of (c ∷ a) (d ∷ b) (suc k) e = coefficient-sum_of a b k (omega arith)
coefficient-sum_of [] (d ∷ b) k e = absurd (omega arith)
coefficient-sum_of (c ∷ a) [] k e = absurd (omega arith)

pub by_second : (p : ℕ) (a b : List ℤ) (k : ℕ) → k < p → coefficient (product p a b) k ≡ weighted b (entry p a k)
by_second p a b k lt = ap (λ xs. coefficient xs k) (product_comm p a b) ∙ coefficient-product p b a k lt

pub product-sum_of : (p : ℕ) (a b c : List ℤ) → length b ≡ length c → product p a (sum_of b c) ≡ sum_of (product p a b) (product p a c)
product-sum_of p a b c e =
    let l0 = length-product p a (sum_of b c) in
    let l1 = length-product p a b in
    let l2 = length-product p a c in
    let l3 = length-sum_of (product p a b) (product p a c) (omega arith) in
    ext_get_or (pos 0) (product p a (sum_of b c)) (sum_of (product p a b) (product p a c)) (omega arith) (λ k below.
    let lt : k < p = omega arith in
    let whole = by_second p a (sum_of b c) k lt ∙ weighted-sum b c (entry p a k) e in
    let left = by_second p a b k lt in
    let right = by_second p a c k lt in
    let both = coefficient-sum_of (product p a b) (product p a c) k (omega arith) in
    omega (arith, ints))

weighted-multiple : (s : ℤ) (b : List ℤ) (g : ℕ → ℤ) → weighted (multiple_of s b) g ≡ s *ℤ weighted b g
weighted-multiple s [] g = sym (*ℤ-zero s)
weighted-multiple s (c ∷ b) g =
    let here = mul_assoc s c (g 0) in
    let rest = weighted-multiple s b (λ j. g (suc j)) in
    let whole = mul-add s (c *ℤ g 0) (weighted b (λ j. g (suc j))) in
    omega (arith, ints)

pub product-multiple_of : (p : ℕ) (s : ℤ) (a b : List ℤ) → product p a (multiple_of s b) ≡ multiple_of s (product p a b)
product-multiple_of p s a b =
    let l0 = length-product p a (multiple_of s b) in
    let l1 = length-product p a b in
    let l2 = length-map (product p a b) (λ d. s *ℤ d) in
    ext_get_or (pos 0) (product p a (multiple_of s b)) (multiple_of s (product p a b)) (omega arith) (λ k below.
    let lt : k < p = omega arith in
    let in_list : k < length (product p a b) = omega arith in
    by_second p a (multiple_of s b) k lt ∙ weighted-multiple s b (entry p a k) ∙ ap (λ x. s *ℤ x) (sym (by_second p a b k lt))
    ∙ sym (get_or-map (λ d. s *ℤ d) (product p a b) k (pos 0) (pos 0) in_list))

weighted_respects : (m : ℤ) (b c : List ℤ) (g : ℕ → ℤ) → length b ≡ length c → ((j : ℕ) → j < length c → IsCongruent m (coefficient b j) (coefficient c j)) → IsCongruent m (weighted b g) (weighted c g)
weighted_respects m [] [] g e h = IsCongruent-same m (pos 0) (pos 0) refl
weighted_respects m (x ∷ b) (y ∷ c) g e h =
    IsCongruent-add m (x *ℤ g 0) (y *ℤ g 0) (weighted b (λ j. g (suc j))) (weighted c (λ j. g (suc j)))
    (IsCongruent-then m (x *ℤ g 0) (g 0 *ℤ x) (y *ℤ g 0) (IsCongruent-same m (x *ℤ g 0) (g 0 *ℤ x) (*ℤ_comm x (g 0)))
    (IsCongruent-onto m (g 0 *ℤ x) (g 0 *ℤ y) (y *ℤ g 0) (IsCongruent-mul m (g 0) x y (h 0 (omega arith))) (*ℤ_comm (g 0) y)))
    (weighted_respects m b c (λ j. g (suc j)) (omega arith) (λ j lt. h (suc j) (omega arith)))
weighted_respects m [] (y ∷ c) g e h = absurd (omega arith)
weighted_respects m (x ∷ b) [] g e h = absurd (omega arith)

pub product_respects : (p : ℕ) (m : ℤ) (a b c : List ℤ) → AreCongruent m b c → AreCongruent m (product p a b) (product p a c)
product_respects p m a b c h =
    let l1 = length-product p a b in
    let l2 = length-product p a c in
    record {
      len = omega arith;
      each = λ k below.
          let lt : k < p = omega arith in
          IsCongruent-then m _ (weighted b (entry p a k)) _ (IsCongruent-same m _ _ (by_second p a b k lt))
          (IsCongruent-onto m _ (weighted c (entry p a k)) _ (weighted_respects m b c (entry p a k) h.len h.each) (sym (by_second p a c k lt)));
    }
