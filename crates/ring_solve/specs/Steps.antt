-- What the steps of the elimination ask, and what they leave.
use Rattle.std.specs.Prelude.{◌≡◌, ℕ, ◌+◌, ◌-◌, ◌*◌, ◌%◌, ◌^◌, ◌<◌, ◌≤◌, List, length, slice_index, sum, map, ℤ, pos}
use Rattle.ring_poly.specs.Ring.{IsCongruent, coefficient, product}
use Rattle.ring_solve.specs.Elimination.{Vanishes, VanishesAtEach, IsBasis}

-- the row has a multiple of m at a column
abbrev pub IsZeroAt : ℕ → List ℕ → ℕ → Type 0
IsZeroAt m row j = IsCongruent (pos m) (pos (slice_index row j)) (pos 0)

-- A multiple of the numbers from a place on, which are 0 up to a column, has room in a row.
pub record HasRoom (factor from : ℕ) (row basis : List ℕ) (at : ℕ) : Type 0 where
  pub place : at + length row ≤ length basis
  pub size : length basis < 2 ^ 62
  pub before : (j : ℕ) → j < from → slice_index basis (at + j) ≡ 0
  pub fits : (j : ℕ) → j < length row → slice_index row j + factor * slice_index basis (at + j) < 2 ^ 32

-- the row that this multiple was added to
abbrev pub IsSum : ℕ → List ℕ → List ℕ → ℕ → List ℕ → Type 0
IsSum factor old basis at new =
    (j : ℕ) → j < length old → slice_index new j ≡ slice_index old j + factor * slice_index basis (at + j)

-- From a place on w numbers were written.
pub record Replaces (w at : ℕ) (old new : List ℕ) (f : ℕ → ℕ) : Type 0 where
  pub written : (j : ℕ) → j < w → slice_index new (at + j) ≡ f j
  pub before : (k : ℕ) → k < at → slice_index new k ≡ slice_index old k
  pub after : (k : ℕ) → at + w ≤ k → slice_index new k ≡ slice_index old k

-- A row of numbers below 4591, to each of which at most so many products of two such numbers were added.
pub record IsUnreduced (steps : ℕ) (row : List ℕ) : Type 0 where
  pub few : steps ≤ 200
  pub sums : (j : ℕ) → slice_index row j ≤ 4590 + steps * 21068100

-- What is left of the row at a column modulo m, and it isn't 0.
pub record IsLead (m c : ℕ) (row : List ℕ) (lead : ℕ) : Type 0 where
  pub column : c < length row
  pub rest : lead ≡ slice_index row c % m
  pub below : lead < m
  pub some : 0 < lead

-- A column of the row is cleared by the row that is kept for it.
pub record Clears (m c : ℕ) (basis old new : List ℕ) : Type 0 where
  pub column : IsZeroAt m new c
  pub before : (j : ℕ) → j < c → IsZeroAt m old j → IsZeroAt m new j
  pub vanishes : (a : List ℤ) → length a ≡ length old → Vanishes m a basis (c * length old)
      → Vanishes m a new 0 → Vanishes m a old 0

-- A row was taken into a basis, which keeps one row more at most: what vanishes at the kept rows vanishes at this row,
-- and at those that were kept before.
pub record TakesIn (m : ℕ) (row old was new kept : List ℕ) : Type 0 where
  pub basis : IsBasis m (length row) new kept
  pub follows : (a : List ℤ) → length a ≡ length row → VanishesAtEach m (length row) new kept a → Vanishes m a row 0
  pub keeps : (a : List ℤ) → length a ≡ length row → VanishesAtEach m (length row) new kept a
      → VanishesAtEach m (length row) old was a
  pub count : sum kept ≤ sum was + 1

-- The rows from 1 to n - 1 of a multiplication, windows of w of the residues, were taken into the basis.
pub record TakesRows (m w n : ℕ) (residues basis kept : List ℕ) : Type 0 where
  pub is_basis : IsBasis m w basis kept
  pub count : sum kept + 1 ≤ n
  pub rows : (a : List ℤ) → length a ≡ w → VanishesAtEach m w basis kept a
      → (r : ℕ) → 0 < r → r < n → Vanishes m a residues (w - 1 - r)

-- rests modulo m of numbers
abbrev pub AreRests : ℕ → List ℕ → List ℤ → Type 0
AreRests m residues numbers =
    (j : ℕ) → j < length numbers → IsCongruent (pos m) (pos (slice_index residues j)) (coefficient numbers j)

-- numbers that are congruent to s times those of x
abbrev pub AreMultiples : ℤ → ℕ → List ℕ → List ℤ → Type 0
AreMultiples m s x out =
    (j : ℕ) → j < length x → IsCongruent m (coefficient out j) (pos (s * slice_index x j))

-- Numbers, 1 at a column and 0 behind it, at which the rows for the columns before it vanish.
pub record SolvesBefore (m w free : ℕ) (basis x : List ℕ) : Type 0 where
  pub below : (j : ℕ) → slice_index x j < m
  pub one : slice_index x free ≡ 1
  pub beyond : (j : ℕ) → free < j → slice_index x j ≡ 0
  pub vanishes : (c : ℕ) → c < free → Vanishes m (map pos x) basis (c * w)

-- Numbers, one of them 1, at which the coefficients from 1 on of the product with a are 0.
pub record SolvesRows (m p : ℕ) (a : List ℤ) (x : List ℕ) : Type 0 where
  pub len : length x ≡ p
  pub below : (j : ℕ) → slice_index x j < m
  pub one : (j : ℕ) × (j < p) × (slice_index x j ≡ 1)
  pub rows : (k : ℕ) → 0 < k → k < p → IsCongruent (pos m) (coefficient (product p a (map pos x)) k) (pos 0)

-- The memory of an elimination for p coefficients, blank where that is needed.
pub record IsMemory (p : ℕ) (residues row basis kept x : List ℕ) : Type 0 where
  pub residues_len : length residues + 1 ≡ 2 * p
  pub row_len : length row ≡ p
  pub basis_len : length basis ≡ p * p
  pub kept_len : length kept ≡ p
  pub x_len : length x ≡ p
  pub basis_blank : (k : ℕ) → slice_index basis k ≡ 0
  pub kept_blank : (k : ℕ) → slice_index kept k ≡ 0
  pub x_blank : (k : ℕ) → slice_index x k ≡ 0
