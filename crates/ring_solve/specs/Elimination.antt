-- Rows modulo m, kept in echelon form.
use Rattle.std.specs.Prelude.{◌≡◌, ℕ, ◌+◌, ◌*◌, ◌%◌, ◌<◌, ◌≤◌, List, length, slice_index, ℤ, pos}
use Rattle.ring_poly.specs.Ring.{weighted, IsCongruent}

-- the numbers from a place on
abbrev pub numbers_from : List ℕ → ℕ → ℕ → ℤ
numbers_from xs start j = pos (slice_index xs (start + j))

-- the sum of the products of a and the numbers from a place on is 0 modulo m
abbrev pub Vanishes : ℕ → List ℤ → List ℕ → ℕ → Type 0
Vanishes m a xs start = IsCongruent (pos m) (weighted a (numbers_from xs start)) (pos 0)

-- so it is with each row that is kept, of w places; the row for column c begins at c w
abbrev pub VanishesAtEach : ℕ → ℕ → List ℕ → List ℕ → List ℤ → Type 0
VanishesAtEach m w basis kept a = (c : ℕ) → c < w → slice_index kept c ≡ 1 → Vanishes m a basis (c * w)

-- Row c, where it is kept, has 1 at column c, and each row c has 0 before.
pub record IsBasis (m w : ℕ) (basis kept : List ℕ) : Type 0 where
  pub len : length basis ≡ w * w
  pub kept_len : length kept ≡ w
  pub below : (k : ℕ) → slice_index basis k < m
  pub before : (c j : ℕ) → c < w → j < c → slice_index basis (c * w + j) ≡ 0
  pub pivot : (c : ℕ) → c < w → slice_index kept c ≡ 1 → slice_index basis (c * w + c) ≡ 1
  pub counts : (c : ℕ) → slice_index kept c ≤ 1

-- The row for column c is kept in a basis.
pub record IsKeptRow (m w c : ℕ) (basis : List ℕ) : Type 0 where
  pub len : length basis ≡ w * w
  pub below : (k : ℕ) → slice_index basis k < m
  pub before : (j : ℕ) → j < c → slice_index basis (c * w + j) ≡ 0
  pub pivot : slice_index basis (c * w + c) ≡ 1

-- no number between 1 and m divides m
abbrev pub IsPrime : ℕ → Type 0
IsPrime m = (k : ℕ) → 1 < k → k < m → 0 < m % k

-- A prime so small that some products of numbers below it have room in a sum.
pub record IsSmallPrime (m : ℕ) : Type 0 where
  pub prime : IsPrime m
  pub some : 1 < m
  pub small : m ≤ 4591
