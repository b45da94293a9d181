-- The product doesn't depend on the order of its factors.
use Rattle.std.proofs.Common.{◌≡◌, ℕ, zero, suc, List, [], ◌∷◌, map, ℤ, pos, ◌+ℤ◌, ◌*ℤ◌, refl, ap, ◌∙◌, arith}
use Rattle.std.specs.List.{range_with_len}
use Rattle.std.proofs.lemmas.Int.{ints}
use Rattle.std.proofs.Math.IntN.{*ℤ_comm, *ℤ-zero}
use Rattle.ring_poly.specs.Ring.{coefficient, shifted, convolution, reduced, product}

convolution_nil : (a : List ℤ) (k : ℕ) → convolution a [] k ≡ pos 0
convolution_nil [] k = refl
convolution_nil (c ∷ a) zero = let z = *ℤ-zero c in omega (arith, ints)
convolution_nil (c ∷ a) (suc k) = let z = *ℤ-zero c in let h = convolution_nil a k in omega (arith, ints)

convolution_cons : (a : List ℤ) (d : ℤ) (b : List ℤ) (k : ℕ) → convolution a (d ∷ b) k ≡ d *ℤ coefficient a k +ℤ shifted (convolution a b) k
convolution_cons [] d b zero = let z = *ℤ-zero d in omega (arith, ints)
convolution_cons [] d b (suc k) = let z = *ℤ-zero d in omega (arith, ints)
convolution_cons (c ∷ a) d b zero = let s = *ℤ_comm c d in omega (arith, ints)
convolution_cons (c ∷ a) d b (suc k) = let h = convolution_cons a d b k in omega (arith, ints)

pub convolution_comm : (a b : List ℤ) (k : ℕ) → convolution a b k ≡ convolution b a k
convolution_comm a [] k = convolution_nil a k
convolution_comm a (d ∷ b) zero = convolution_cons a d b zero
convolution_comm a (d ∷ b) (suc k) = convolution_cons a d b (suc k) ∙ ap (λ x. d *ℤ coefficient a (suc k) +ℤ x) (convolution_comm a b k)

pub product_comm : (p : ℕ) (a b : List ℤ) → product p a b ≡ product p b a
product_comm p a b = λ i. map (reduced p (λ k. convolution_comm a b k i)) (range_with_len 0 p)
