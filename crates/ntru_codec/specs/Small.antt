-- The encoding of coefficients that are -1, 0 or 1: four in a byte.
use Rattle.std.specs.Prelude.{◌≡◌, ℕ, zero, suc, ◌+◌, ◌*◌, ◌/◌, ◌%◌, ◌<◌, List, [], ◌∷◌, length, ℤ, pos, negsuc, ◌⊎◌}
use Rattle.std.specs.List.{All}

-- the coefficient is -1, 0 or 1
abbrev pub IsSmall : ℤ → Type 0
IsSmall a = (a ≡ negsuc 0) ⊎ ((a ≡ pos 0) ⊎ (a ≡ pos 1))

-- the coefficient plus 1
abbrev pub code_of : ℤ → ℕ
code_of (pos n) = n + 1
code_of (negsuc n) = 0

-- four of them in a byte, two bits each, the first in the lowest two
abbrev pub packed : ℤ → ℤ → ℤ → ℤ → ℕ
packed a b c d = code_of a + 4 * code_of b + 16 * code_of c + 64 * code_of d

-- four coefficients in a byte, and the last one alone in a byte
unfoldable pub small_encoding : List ℤ → List ℕ
small_encoding (a ∷ b ∷ c ∷ d ∷ rest) = packed a b c d ∷ small_encoding rest
small_encoding (a ∷ b ∷ c ∷ []) = code_of a ∷ []
small_encoding (a ∷ b ∷ []) = code_of a ∷ []
small_encoding (a ∷ []) = code_of a ∷ []
small_encoding [] = []

-- coefficients that have these bytes as their encoding
pub record SpellsSmall (bytes : List ℕ) (a : List ℤ) : Type 0 where
  pub small : All IsSmall a
  pub encoded : small_encoding a ≡ bytes

-- the bytes are the encoding of `count` small coefficients
abbrev pub IsSmallSpelling : ℕ → List ℕ → Type 0
IsSmallSpelling count bytes = (a : List ℤ) × (length a ≡ count) × SpellsSmall bytes a

-- the coefficient of a code
abbrev pub coefficient_of : ℕ → ℤ
coefficient_of zero = negsuc 0
coefficient_of (suc n) = pos n

-- the byte is four codes below 3
pub record IsPacked (b : ℕ) : Type 0 where
  pub first : b % 4 < 3
  pub second : b / 4 % 4 < 3
  pub third : b / 16 % 4 < 3
  pub fourth : b / 64 < 3

-- the bytes are packed, but for the last one, which is a code below 3
unfoldable pub ArePacked : List ℕ → Type 0
ArePacked (b ∷ c ∷ bs) = IsPacked b × ArePacked (c ∷ bs)
ArePacked (b ∷ []) = b < 3
ArePacked [] = Unit {0}

-- the coefficients in them
unfoldable pub coefficients : List ℕ → List ℤ
coefficients (b ∷ c ∷ bs) =
    coefficient_of (b % 4) ∷ coefficient_of (b / 4 % 4) ∷ coefficient_of (b / 16 % 4) ∷ coefficient_of (b / 64) ∷ coefficients (c ∷ bs)
coefficients (b ∷ []) = coefficient_of b ∷ []
coefficients [] = []
