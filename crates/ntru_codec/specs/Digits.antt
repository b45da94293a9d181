-- Digits with a modulus each, as the plain program has them.
use Rattle.std.specs.Prelude.{ℕ, ◌^◌, ◌<◌, List, map}
use Rattle.std.specs.List.{All}
use Rattle.ntru_codec.specs.Mixed.{Digit, digit}

abbrev pub digits_at : List (ℕ × ℕ) → List Digit
digits_at ds = map (λ d. digit d.0 d.1) ds

-- the value is below the modulus, which fits two bytes
abbrev pub IsDigit : ℕ × ℕ → Type 0
IsDigit d = (d.0 < d.1) × (d.1 < 2 ^ 16)

abbrev pub AreDigits : List (ℕ × ℕ) → Type 0
AreDigits ds = All IsDigit ds
