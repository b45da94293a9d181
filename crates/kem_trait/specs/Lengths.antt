-- The sets of parameters by their numbers.
use Rattle.std.specs.Prelude.{◌≡◌, ◌⊎◌, ℕ}

-- Set 1 or set 2, with how many bytes its public keys, its secret keys and its ciphertexts have.
abbrev pub HasSetLengths : (set public secret cipher : ℕ) → Type 0
HasSetLengths set public secret cipher =
    ((set ≡ 1) × (public ≡ 1158) × (secret ≡ 1763) × (cipher ≡ 1039))
    ⊎ ((set ≡ 2) × (public ≡ 33) × (secret ≡ 95) × (cipher ≡ 58))
