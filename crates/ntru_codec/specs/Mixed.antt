-- The mixed radix encoding of a list of digits, in the form that NTRU Prime gives it: neighbours are joined, whole
-- bytes are given off, and the shorter list is encoded again.
use Rattle.std.specs.Prelude.{◌≡◌, ℕ, zero, suc, ◌+◌, ◌*◌, ◌/◌, ◌%◌, ◌<◌, List, [], ◌∷◌, ◌++◌, map, length, replicate, nat_le, if◌then◌else◌}
use Rattle.std.specs.List.{All}

-- a digit and its modulus
pub record Digit : Type 0 where
  pub value : ℕ
  pub modulus : ℕ

abbrev pub digit : ℕ → ℕ → Digit
digit r m = record { value = r; modulus = m }

-- what stays of a digit that gives off its lowest byte
abbrev pub without_byte : Digit → Digit
without_byte d = digit (d.value / 256) ((d.modulus + 255) / 256)

-- the bytes that a digit gives off, the lowest first, while its modulus is at least `limit`. They are `n` at most:
-- no modulus here is as large as 2 ^ 32, so four are enough.
unfoldable pub given_off : ℕ → ℕ → Digit → List ℕ
given_off zero limit d = []
given_off (suc n) limit d =
    if nat_le limit d.modulus then d.value % 256 ∷ given_off n limit (without_byte d) else []

-- what stays of the digit then
unfoldable pub left_over : ℕ → ℕ → Digit → Digit
left_over zero limit d = d
left_over (suc n) limit d = if nat_le limit d.modulus then left_over n limit (without_byte d) else d

-- two neighbours as one digit
abbrev pub joined : Digit → Digit → Digit
joined d e = digit (d.value + d.modulus * e.value) (d.modulus * e.modulus)

-- the bytes of one round: each pair of neighbours, joined, gives bytes off while its modulus is at least 2 ^ 14
unfoldable pub round_bytes : List Digit → List ℕ
round_bytes (d ∷ e ∷ ds) = given_off 4 16384 (joined d e) ++ round_bytes ds
round_bytes (d ∷ []) = []
round_bytes [] = []

-- the digits of the next round: a last one without a neighbour stays as it is
unfoldable pub next_round : List Digit → List Digit
next_round (d ∷ e ∷ ds) = left_over 4 16384 (joined d e) ∷ next_round ds
next_round (d ∷ []) = d ∷ []
next_round [] = []

-- the bytes of `n` rounds at most. The last round is that of a single digit, which gives off bytes while its modulus
-- is above 1.
unfoldable pub encoding_in : ℕ → List Digit → List ℕ
encoding_in zero ds = []
encoding_in (suc n) [] = []
encoding_in (suc n) (d ∷ []) = given_off 4 2 d
encoding_in (suc n) (d ∷ e ∷ ds) = round_bytes (d ∷ e ∷ ds) ++ encoding_in n (next_round (d ∷ e ∷ ds))

-- the encoding of digits that may have different moduli. A round halves the list, so there are never more rounds
-- than digits.
abbrev pub encoding : List Digit → List ℕ
encoding ds = encoding_in (length ds) ds

abbrev pub digits : ℕ → List ℕ → List Digit
digits m rs = map (λ r. digit r m) rs

-- the encoding of digits of one modulus
abbrev pub mixed_encoding : ℕ → List ℕ → List ℕ
mixed_encoding modulus rs = encoding (digits modulus rs)

-- how many bytes it has: those of so many zeros
abbrev pub mixed_len : ℕ → ℕ → ℕ
mixed_len count modulus = length (mixed_encoding modulus (replicate count 0))

-- digits below the modulus that have these bytes as their encoding
pub record Spells (modulus : ℕ) (bytes : List ℕ) (rs : List ℕ) : Type 0 where
  pub below : All (λ r. r < modulus) rs
  pub encoded : mixed_encoding modulus rs ≡ bytes

-- the bytes are the encoding of `count` digits below the modulus
abbrev pub IsSpelling : ℕ → ℕ → List ℕ → Type 0
IsSpelling count modulus bytes = (rs : List ℕ) × (length rs ≡ count) × Spells modulus bytes rs
