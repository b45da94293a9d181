-- The size of a small polynomial times a short one.
use Rattle.std.proofs.Common.{◌≡◌, ℕ, zero, suc, ◌+◌, ◌*◌, ◌<◌, List, [], ◌∷◌, length, ℤ, pos, negsuc, ◌*ℤ◌, sym, subst, ⊎_elim, All, cond, arith}
use Rattle.std.proofs.lemmas.Int.{ints}
use Rattle.std.proofs.lemmas.Bool.{cases_lt}
use Rattle.std.proofs.lemmas.List.{get_or_past}
use Rattle.std.proofs.lemmas.List.Elements.{All-get_or, All-from_get_or, All-head, All-tail}
use Rattle.std.proofs.lemmas.List.Sums.{sum_by-cons}
use Rattle.std.proofs.Math.IntN.{zero-*ℤ}
use Rattle.std.specs.List.{count_by}
use Rattle.ring_poly.specs.Ring.{coefficient, product, weighted, IsWithin}
use Rattle.ring_poly.proofs.Integers.{Within-mul, Within-add, Within-zero, Within-more}
use Rattle.ring_poly.proofs.Weighted.{back, entry}
use Rattle.ring_poly.proofs.WindowSums.{length-product, back_past, back_high}
use Rattle.ring_laws.specs.Laws.{AreSmall, IsShort, is_nonzero}
use Rattle.ring_laws.proofs.Turning.{by_second}

coefficient_small : (a : List ℤ) → AreSmall a → (i : ℕ) → IsWithin 1 (coefficient a i)
coefficient_small a h i =
    ⊎_elim (λ lt. All-get_or (IsWithin 1) a i (pos 0) lt h)
    (λ ge. let P : ℤ → Type 0 = λ c. IsWithin 1 c in subst P (sym (get_or_past a i (pos 0) ge)) (Within-zero 1))
    (cases_lt i (length a))

back_small : (a : List ℤ) → AreSmall a → (k j : ℕ) → IsWithin 1 (back a k j)
unfolding back
back_small a h k zero = coefficient_small a h k
back_small a h zero (suc j) = Within-zero 1
back_small a h (suc k) (suc j) = back_small a h k j

-- of the three terms of an entry one is 0
entry_small : (p : ℕ) (a : List ℤ) → length a ≡ p → AreSmall a → (k j : ℕ) → IsWithin 2 (entry p a k j)
unfolding entry
entry_small p a len h zero j =
    let one = back_small a h 0 j in
    let two = back_small a h (p + 0) j in
    let one_lo = one.0 in let one_hi = one.1 in
    let two_lo = two.0 in let two_hi = two.1 in
    (omega (arith, ints), omega (arith, ints))
entry_small p a len h (suc k) j =
    let one = back_small a h (suc k) j in
    let two = back_small a h (p + suc k) j in
    let three = back_small a h (p + k) j in
    let one_lo = one.0 in let one_hi = one.1 in
    let two_lo = two.0 in let two_hi = two.1 in
    let three_lo = three.0 in let three_hi = three.1 in
    ⊎_elim (λ above. let none = back_high a (suc k) j above in (omega (arith, ints), omega (arith, ints)))
    (λ low. let none = back_past a (p + suc k) j (omega arith) in (omega (arith, ints), omega (arith, ints)))
    (cases_lt (suc k) j)

-- a coefficient that is 0 adds nothing
weighted_short : (b : List ℤ) (g : ℕ → ℤ) → AreSmall b → ((j : ℕ) → IsWithin 2 (g j)) → IsWithin (2 * count_by is_nonzero b) (weighted b g)
weighted_short [] g h small = Within-zero (2 * count_by is_nonzero [])
weighted_short (c ∷ b) g h small =
    let rest = weighted_short b (λ j. g (suc j)) (All-tail (IsWithin 1) c b h) (λ j. small (suc j)) in
    let count : count_by is_nonzero (c ∷ b) ≡ cond (is_nonzero c) 1 0 + count_by is_nonzero b = sum_by-cons (λ x. cond (is_nonzero x) 1 0) c b in
    let n = cond (is_nonzero c) 1 0 in
    Within-more (2 * n + 2 * count_by is_nonzero b) _ _ (omega (arith, count))
    (Within-add (2 * n) (2 * count_by is_nonzero b) _ _ (first c (g 0) (All-head (IsWithin 1) c b h) (small 0)) rest)
  where
    first : (c v : ℤ) → IsWithin 1 c → IsWithin 2 v → IsWithin (2 * cond (is_nonzero c) 1 0) (c *ℤ v)
    first (pos zero) v one two = let P : ℤ → Type 0 = λ x. IsWithin 0 x in subst P (sym (zero-*ℤ v)) (Within-zero 0)
    first (pos (suc n)) v one two = Within-mul 1 2 (pos (suc n)) v one two
    first (negsuc n) v one two = Within-mul 1 2 (negsuc n) v one two

pub product_low : (p w : ℕ) (a b : List ℤ) → length a ≡ p → AreSmall a → IsShort w b → All (IsWithin (2 * w)) (product p a b)
product_low p w a b len small short =
    let l = length-product p a b in
    All-from_get_or (IsWithin (2 * w)) (product p a b) (pos 0) (λ k below.
    let lt : k < p = omega arith in
    let P : ℤ → Type 0 = λ c. IsWithin (2 * w) c in
    subst P (sym (by_second p a b k lt))
    (Within-more (2 * count_by is_nonzero b) (2 * w) _ (let e = short.weight in omega arith) (weighted_short b (entry p a k) short.small (entry_small p a len small k))))
