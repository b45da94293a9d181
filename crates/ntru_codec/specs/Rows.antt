-- What the functions of single rounds say of one another. A row is the list of digits of one round: all have one
-- modulus, but for the last.
use Rattle.std.specs.Prelude.{◌≡◌, ℕ, zero, suc, ◌+◌, ◌*◌, ◌/◌, ◌%◌, ◌^◌, ◌<◌, ◌≤◌, ◌-◌, List, [], ◌∷◌, ◌++◌, take, slice_index}
use Rattle.std.specs.List.{All}
use Rattle.ntru_codec.specs.Mixed.{Digit, digit, digits, given_off, left_over}

-- the `k` lowest bytes of a number, the lowest first
unfoldable pub low_bytes : ℕ → ℕ → List ℕ
low_bytes zero v = []
low_bytes (suc k) v = v % 256 ∷ low_bytes k (v / 256)

-- a digit of modulus m gives off k bytes, and a digit of modulus `left` stays
pub record Shrinks (limit m k left : ℕ) : Type 0 where
  pub gives_off : (v : ℕ) → given_off 4 limit (digit v m) ≡ low_bytes k v
  pub leaves : (v : ℕ) → left_over 4 limit (digit v m) ≡ digit (v / 256 ^ k) left
  pub covers : m ≤ left * 256 ^ k
  pub fits : left * 256 ^ k ≤ 2 ^ 32
  pub below : left < limit
  pub few : k ≤ 4

-- the digits of a row: `front` of modulus `each`, and the last
abbrev pub row : ℕ → ℕ → ℕ → List ℕ → List Digit
row front each last rs = digits each (take front rs) ++ digit (slice_index rs front) last ∷ []

-- they are below their moduli
pub record IsBelow (front each last : ℕ) (rs : List ℕ) : Type 0 where
  pub front_below : All (λ r. r < each) (take front rs)
  pub last_below : slice_index rs front < last

-- two neighbours of moduli m and whatever, joined: the bytes that each pair gives off, k for a pair
unfoldable pub low_parts : ℕ → ℕ → List ℕ → List ℕ
low_parts m k (a ∷ b ∷ rs) = low_bytes k (a + m * b) ++ low_parts m k rs
low_parts m k (a ∷ []) = []
low_parts m k [] = []

-- what stays of each pair
unfoldable pub high_parts : ℕ → ℕ → List ℕ → List ℕ
high_parts m k (a ∷ b ∷ rs) = (a + m * b) / 256 ^ k ∷ high_parts m k rs
high_parts m k (a ∷ []) = []
high_parts m k [] = []

-- the first of each pair is below its modulus
unfoldable pub FirstsBelow : ℕ → List ℕ → Type 0
FirstsBelow m (a ∷ b ∷ rs) = (a < m) × FirstsBelow m rs
FirstsBelow m (a ∷ []) = Unit {0}
FirstsBelow m [] = Unit {0}

-- the second of each pair is below its modulus
unfoldable pub SecondsBelow : ℕ → List ℕ → Type 0
SecondsBelow m (a ∷ b ∷ rs) = (b < m) × SecondsBelow m rs
SecondsBelow m (a ∷ []) = Unit {0}
SecondsBelow m [] = Unit {0}

-- what stands at the end of a row behind its pairs: the last digit, joined with the one before it where that has no
-- other neighbour
pub record IsEnd (front each : ℕ) (rs : List ℕ) (v : ℕ) : Type 0 where
  pub alone : front % 2 ≡ 0 → v ≡ slice_index rs front
  pub joined : front % 2 ≡ 1 → v ≡ slice_index rs (front - 1) + each * slice_index rs front

-- the digits at the end are below their moduli
pub record IsEndBelow (front each last : ℕ) (rs : List ℕ) : Type 0 where
  pub before : front % 2 ≡ 1 → slice_index rs (front - 1) < each
  pub at_end : slice_index rs front < last
