-- The sets of parameters of the key encapsulation. A polynomial is a list of p coefficients; the ring is
-- Z[x]/(x^p - x - 1), with coefficients modulo q or modulo 3.
use Rattle.std.specs.Prelude.{◌≡◌, ◌⊎◌, ℕ, ◌+◌, ◌/◌}
use Rattle.ntru_codec.specs.Mixed.{mixed_len}

pub record Parameters : Type 0 where
  -- how many coefficients a polynomial has
  pub p : ℕ
  -- the modulus
  pub q : ℕ
  -- how many coefficients of a short polynomial aren't 0
  pub w : ℕ

abbrev pub sntrup761 : Parameters
sntrup761 = record { p = 761; q = 4591; w = 286 }

-- for rehearsals: it has no security
abbrev pub drill37 : Parameters
drill37 = record { p = 37; q = 127; w = 7 }

-- one of the two sets
abbrev pub IsKnown : Parameters → Type 0
IsKnown s = (s ≡ sntrup761) ⊎ (s ≡ drill37)

-- The lengths in bytes: of a small polynomial, and of rho; of a public key; of the polynomial in a ciphertext; of a
-- secret key; and of a ciphertext.
abbrev pub small_len : Parameters → ℕ
small_len s = s.p / 4 + 1

abbrev pub public_len : Parameters → ℕ
public_len s = mixed_len s.p s.q

abbrev pub core_len : Parameters → ℕ
core_len s = mixed_len s.p ((s.q + 2) / 3)

abbrev pub secret_len : Parameters → ℕ
secret_len s = small_len s + small_len s + public_len s + small_len s + 32

abbrev pub cipher_len : Parameters → ℕ
cipher_len s = core_len s + 32
