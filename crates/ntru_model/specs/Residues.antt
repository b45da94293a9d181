-- Polynomials modulo x^p - x - 1 and modulo m, by their centred coefficients.
use Rattle.std.specs.Prelude.{ℕ, ◌/◌, List, Option, map, ℤ, pos, ◌+ℤ◌, ◌-ℤ◌}
use Rattle.std.specs.Int.{int_rem_euclid}
use Rattle.std.specs.List.{find, range_with_len}
use Rattle.std.specs.Ordering.{int_eq}
use Rattle.std.specs.Cmp.Lexicographic.{pointwise}
use Rattle.ring_poly.specs.Ring.{product}
use Rattle.ring_solve.specs.Fields.{one}
use Rattle.ntru_model.specs.Search.{lists_of}

-- the number from -(m - 1)/2 to (m - 1)/2 that differs from c by a multiple of m, for an odd m
abbrev pub centred : ℕ → ℤ → ℤ
centred m c = int_rem_euclid (c +ℤ pos (m / 2)) (pos m) -ℤ pos (m / 2)

-- the product modulo m
abbrev pub product_mod : ℕ → ℕ → List ℤ → List ℤ → List ℤ
product_mod p m a b = map (centred m) (product p a b)

-- the centred numbers of a modulus, the least first
abbrev pub centred_numbers : ℕ → List ℤ
centred_numbers m = map (λ i. pos i -ℤ pos (m / 2)) (range_with_len 0 m)

-- the polynomial of centred coefficients whose product with a is 1, where there is one
unfoldable pub inverse_mod : ℕ → ℕ → List ℤ → Option (List ℤ)
inverse_mod p m a = find (λ b. pointwise int_eq (product_mod p m a b) (one p)) (lists_of p (centred_numbers m))

-- the multiple of 3 nearest to a number
abbrev pub nearest_triple : ℤ → ℤ
nearest_triple c = c -ℤ centred 3 c
