-- The ring Z[x]/(x^p - x - 1). A polynomial is the list of its coefficients, that of x^0 first.
use Rattle.std.specs.Prelude.{◌≡◌, ℕ, zero, suc, ◌+◌, ◌<◌, List, [], ◌∷◌, length, map, slice_index_or, ℤ, pos, ◌+ℤ◌, ◌-ℤ◌, ◌*ℤ◌, neg_ℤ, ◌<ℤ◌, ◌≤ℤ◌}
use Rattle.std.specs.List.{range_with_len}
use Rattle.std.specs.Int.RustNames.{int_rem}

-- the coefficient of x^k, which is 0 past the end of the list
abbrev pub coefficient : List ℤ → ℕ → ℤ
coefficient a k = slice_index_or a k (pos 0)

-- the coefficients of x times a polynomial
abbrev pub shifted : (ℕ → ℤ) → ℕ → ℤ
shifted f zero = pos 0
shifted f (suc k) = f k

-- the coefficients of the product in Z[x]: (c + x a) b is c b + x (a b)
abbrev pub convolution : List ℤ → List ℤ → ℕ → ℤ
convolution [] b k = pos 0
convolution (c ∷ a) b k = c *ℤ coefficient b k +ℤ shifted (convolution a b) k

-- modulo x^p - x - 1, for a degree of at most 2p - 2: each x^(p + i) becomes x^i + x^(i + 1)
abbrev pub reduced : ℕ → (ℕ → ℤ) → ℕ → ℤ
reduced p f k = (f k +ℤ f (p + k)) +ℤ shifted (λ i. f (p + i)) k

-- the product in Z[x]/(x^p - x - 1) of two polynomials of p coefficients: p coefficients again
abbrev pub product : ℕ → List ℤ → List ℤ → List ℤ
product p a b = map (reduced p (convolution a b)) (range_with_len 0 p)

-- the sum of each a_j times g j
abbrev pub weighted : List ℤ → (ℕ → ℤ) → ℤ
weighted [] g = pos 0
weighted (c ∷ a) g = c *ℤ g 0 +ℤ weighted a (λ j. g (suc j))

-- a and b differ by a multiple of m
pub record IsCongruent (m a b : ℤ) : Type 0 where
  pub factor : ℤ
  pub is : a ≡ b +ℤ factor *ℤ m

-- coefficient by coefficient
pub record AreCongruent (m : ℤ) (a b : List ℤ) : Type 0 where
  pub len : length a ≡ length b
  pub each : (k : ℕ) → k < length b → IsCongruent m (coefficient a k) (coefficient b k)

-- from -(m - 1)/2 to (m - 1)/2, for an odd m
abbrev pub IsCentred : ℤ → ℤ → Type 0
IsCentred m c = (neg_ℤ m <ℤ (pos 2 *ℤ c)) × ((pos 2 *ℤ c) <ℤ m)

-- A modulus of the key encapsulation, 3, 127 and 4591 among them: odd, and small enough for the sums of the code
pub record IsModulus (m : ℤ) : Type 0 where
  pub odd : int_rem m (pos 2) ≡ pos 1
  pub least : pos 3 ≤ℤ m
  pub most : m ≤ℤ pos 4591

-- at most m in size
abbrev pub IsWithin : ℕ → ℤ → Type 0
IsWithin m c = (neg_ℤ (pos m) ≤ℤ c) × (c ≤ℤ pos m)

-- r is the multiple of 3 nearest to c
pub record IsRounded (c r : ℤ) : Type 0 where
  pub third : ℤ
  pub multiple : r ≡ pos 3 *ℤ third
  pub near : IsWithin 1 (c -ℤ r)

-- coefficient by coefficient
pub record AreRounded (a r : List ℤ) : Type 0 where
  pub len : length r ≡ length a
  pub each : (k : ℕ) → k < length a → IsRounded (coefficient a k) (coefficient r k)
