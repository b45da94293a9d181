-- The two sets of parameters by their numbers, and the pair that a secret key holds.
use Rattle.std.specs.Prelude.{◌≡◌, ℕ, nat_eq, if◌then◌else◌, ◌+◌, ◌%◌, ◌<◌, ◌≤◌, List, take, drop, ℤ, pos, unsigned_abs}
use Rattle.ring_poly.specs.Ring.{IsModulus}
use Rattle.ring_solve.specs.Fields.{IsField}
use Rattle.ntru_model.specs.Parameters.{Parameters, IsKnown, drill37, public_len, small_len, sntrup761}
use Rattle.ntru_model.specs.Pairs.{KeyPair}

abbrev pub set_of : ℕ → ℤ → ℕ → Parameters
set_of p q w = record { p = p; q = unsigned_abs q; w = w }

-- the set with so many coefficients
abbrev pub parameters : ℕ → Parameters
parameters p = if nat_eq p 761 then sntrup761 else drill37

-- one of the two sets, and what holds of both
pub record IsSet (p : ℕ) (q : ℤ) (w : ℕ) : Type 0 where
  pub known : IsKnown (set_of p q w)
  pub named : parameters p ≡ set_of p q w
  pub size : (1 < p) × (p ≤ 761)
  pub fours : p % 4 ≡ 1
  pub modulus : IsModulus q
  pub field : IsField q
  pub positive : q ≡ pos (unsigned_abs q)
  pub low : 127 ≤ unsigned_abs q
  pub high : unsigned_abs q ≤ 4591
  pub sixths : unsigned_abs q % 6 ≡ 1
  pub weight : w ≤ p

-- the pair of these polynomials, with rho from the bytes of a secret key
abbrev pub pair_with : Parameters → (f g_inverse h : List ℤ) → (secret : List ℕ) → KeyPair
pair_with s f g_inverse h secret = record {
  f = f;
  g_inverse = g_inverse;
  h = h;
  rho = take (small_len s) (drop (small_len s + small_len s + public_len s) secret);
}
