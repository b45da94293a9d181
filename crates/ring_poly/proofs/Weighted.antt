-- Laws of weighted sums, and of a coefficient of the product as one.
use Rattle.std.proofs.Common.{◌≡◌, ℕ, zero, suc, ◌+◌, ◌-◌, ◌*◌, ◌<◌, ◌≤◌, List, [], ◌∷◌, ◌++◌, length, get_or, take, drop, ℤ, pos, ◌+ℤ◌, ◌*ℤ◌, refl, sym, ap, subst, ◌∙◌, arith}
use Rattle.std.proofs.lemmas.Int.{ints}
use Rattle.std.proofs.Math.IntN.{*ℤ-zero}
use Rattle.std.proofs.lemmas.List.{take_more, get_or-take, get_or-drop, length-take, length-take-le, take-take, drop-take, take-append-drop}
use Rattle.std.proofs.lemmas.Nat.{mul-le}
use Rattle.ring_poly.specs.Ring.{coefficient, shifted, convolution, reduced, weighted, IsWithin as Within}
use Rattle.ring_poly.proofs.Integers.{mul-add, Within-mul, Within-add, Within-zero, Within-more}

pub weighted-same : (a : List ℤ) (g h : ℕ → ℤ) → ((j : ℕ) → j < length a → g j ≡ h j) → weighted a g ≡ weighted a h
weighted-same [] g h e = refl
weighted-same (c ∷ a) g h e =
    ap (λ x. c *ℤ x +ℤ weighted a (λ j. g (suc j))) (e 0 (omega arith))
    ∙ ap (λ x. c *ℤ h 0 +ℤ x) (weighted-same a (λ j. g (suc j)) (λ j. h (suc j)) (λ j lt. e (suc j) (omega arith)))

pub weighted_zero : (a : List ℤ) → weighted a (λ _. pos 0) ≡ pos 0
weighted_zero [] = refl
weighted_zero (c ∷ a) = ap (λ x. x +ℤ weighted a (λ _. pos 0)) (*ℤ-zero c) ∙ ap (λ x. pos 0 +ℤ x) (weighted_zero a)

pub weighted-add : (a : List ℤ) (g h : ℕ → ℤ) → weighted a (λ j. g j +ℤ h j) ≡ weighted a g +ℤ weighted a h
weighted-add [] g h = refl
weighted-add (c ∷ a) g h =
    let here = mul-add c (g 0) (h 0) in
    let rest = weighted-add a (λ j. g (suc j)) (λ j. h (suc j)) in
    omega (arith, ints)

pub weighted-append : (a b : List ℤ) (g : ℕ → ℤ) → weighted (a ++ b) g ≡ weighted a g +ℤ weighted b (λ j. g (length a + j))
weighted-append [] b g = weighted-same b g (λ j. g (0 + j)) (λ j _. ap g (omega arith)) ∙ omega (arith, ints)
weighted-append (c ∷ a) b g =
    let rest = weighted-append a b (λ j. g (suc j)) in
    let same = weighted-same b (λ j. g (suc (length a + j))) (λ j. g (suc (length a) + j)) (λ j _. ap g (omega arith)) in
    omega (arith, ints)

-- one more term
pub weighted_more : (a : List ℤ) (i : ℕ) (g : ℕ → ℤ) → i < length a → weighted (take (i + 1) a) g ≡ weighted (take i a) g +ℤ get_or a i (pos 0) *ℤ g i
weighted_more a i g lt =
    ap (λ xs. weighted xs g) (take_more a i (pos 0) lt)
    ∙ weighted-append (take i a) (get_or a i (pos 0) ∷ []) g
    ∙ (let e : g (length (take i a) + 0) ≡ g i = ap g (let l = length-take-le i a (omega arith) in omega arith) in
    ap (λ x. weighted (take i a) g +ℤ (get_or a i (pos 0) *ℤ x +ℤ pos 0)) e ∙ omega (arith, ints))

-- n terms of size at most m
pub Within-weighted : (m n : ℕ) (a : List ℤ) (g : ℕ → ℤ) → ((j : ℕ) → j < length a → Within m (get_or a j (pos 0))) → ((j : ℕ) → j < length a → Within n (g j)) → Within (length a * (m * n)) (weighted a g)
Within-weighted m n [] g p q = Within-zero (0 * (m * n))
Within-weighted m n (c ∷ a) g p q =
    let here = Within-mul m n c (g 0) (p 0 (omega arith)) (q 0 (omega arith)) in
    let rest = Within-weighted m n a (λ j. g (suc j)) (λ j lt. p (suc j) (omega arith)) (λ j lt. q (suc j) (omega arith)) in
    Within-more (m * n + length a * (m * n)) (suc (length a) * (m * n)) _ (omega arith) (Within-add (m * n) (length a * (m * n)) _ _ here rest)

-- the coefficient of b that a_j meets in coefficient k of the product in Z[x]
unfoldable pub back : List ℤ → ℕ → ℕ → ℤ
back b k zero = coefficient b k
back b zero (suc j) = pos 0
back b (suc k) (suc j) = back b k j

pub convolution_is : (a b : List ℤ) (k : ℕ) → convolution a b k ≡ weighted a (back b k)
unfolding back
convolution_is [] b k = refl
convolution_is (c ∷ a) b zero = ap (λ x. c *ℤ coefficient b zero +ℤ x) (sym (weighted_zero a))
convolution_is (c ∷ a) b (suc k) = ap (λ x. c *ℤ coefficient b (suc k) +ℤ x) (convolution_is a b k)

-- the number that a_j meets in coefficient k of the product modulo x^p - x - 1
unfoldable pub entry : ℕ → List ℤ → ℕ → ℕ → ℤ
entry p b k j = (back b k j +ℤ back b (p + k) j) +ℤ shifted (λ i. back b (p + i) j) k

pub reduced_is : (p : ℕ) (a b : List ℤ) (k : ℕ) → reduced p (convolution a b) k ≡ weighted a (entry p b k)
unfolding entry
reduced_is p a b zero =
    let same = weighted-add a (λ j. back b zero j +ℤ back b (p + zero) j) (λ _. pos 0) in
    let both = weighted-add a (back b zero) (back b (p + zero)) in
    let none = weighted_zero a in
    let low = convolution_is a b zero in
    let high = convolution_is a b (p + zero) in
    omega (arith, ints)
reduced_is p a b (suc k) =
    let same = weighted-add a (λ j. back b (suc k) j +ℤ back b (p + suc k) j) (back b (p + k)) in
    let both = weighted-add a (back b (suc k)) (back b (p + suc k)) in
    let low = convolution_is a b (suc k) in
    let high = convolution_is a b (p + suc k) in
    let next = convolution_is a b (p + k) in
    omega (arith, ints)

-- the first i terms, of size at most m n each, where i is at most l
pub Within-front : (m n l : ℕ) (a : List ℤ) (i : ℕ) (g : ℕ → ℤ) → i ≤ length a → i ≤ l → ((j : ℕ) → Within m (coefficient a j)) → ((j : ℕ) → Within n (g j)) → Within (l * (m * n)) (weighted (take i a) g)
Within-front m n l a i g le le_l p q =
    let len = length-take-le i a le in
    Within-more (length (take i a) * (m * n)) (l * (m * n)) _ (mul-le _ _ l (m * n) (omega arith) (omega arith))
    (Within-weighted m n (take i a) g
    (λ j lt. let P : ℤ → Type 0 = λ x. Within m x in subst P (sym (get_or-take i a j (pos 0) (omega arith))) (p j))
    (λ j _. q j))

-- the terms between two places
pub weighted_block : (a b : List ℤ) (from to : ℕ) → from ≤ to → to ≤ length a → weighted (take to a) (coefficient b) ≡ weighted (take from a) (coefficient b) +ℤ weighted (take (to - from) (drop from a)) (coefficient (take (to - from) (drop from b)))
weighted_block a b from to le le_a =
    let n = to - from in
    let back_to : from + n ≡ to = omega arith in
    let front : take from (take to a) ≡ take from a = take-take from to a le in
    let rest : drop from (take to a) ≡ take n (drop from a) = ap (λ k. drop from (take k a)) (sym back_to) ∙ drop-take from n a in
    let parts : take to a ≡ take from a ++ take n (drop from a) = sym (take-append-drop from (take to a)) ∙ ap (λ xs. xs ++ drop from (take to a)) front ∙ ap (λ xs. take from a ++ xs) rest in
    let len = length-take-le from a (omega arith) in
    let size : length (take n (drop from a)) ≤ n = let e = length-take n (drop from a) in omega arith in
    ap (λ xs. weighted xs (coefficient b)) parts
    ∙ weighted-append (take from a) (take n (drop from a)) (coefficient b)
    ∙ ap (λ x. weighted (take from a) (coefficient b) +ℤ x) (weighted-same (take n (drop from a)) (λ j. coefficient b (length (take from a) + j)) (coefficient (take n (drop from b))) (λ j lt.
    ap (λ k. coefficient b (k + j)) len ∙ sym (get_or-take n (drop from b) j (pos 0) (omega arith) ∙ get_or-drop from b j (pos 0))))
