-- The polynomials 1 and 0, and the moduli.
use Rattle.std.specs.Prelude.{◌≡◌, ℕ, ◌-◌, List, ◌∷◌, replicate, ℤ, pos, ◌⊎◌}

-- the polynomials 1 and 0, of p coefficients
abbrev pub one : ℕ → List ℤ
one p = pos 1 ∷ replicate (p - 1) (pos 0)

abbrev pub zero_of : ℕ → List ℤ
zero_of p = replicate p (pos 0)

-- the moduli of the sets, each a prime
abbrev pub IsField : ℤ → Type 0
IsField m = (m ≡ pos 3) ⊎ ((m ≡ pos 127) ⊎ (m ≡ pos 4591))
