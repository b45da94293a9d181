-- Polynomials as bytes. A reader gives the polynomial whose encoding the bytes are, where there is one.
use Rattle.std.specs.Prelude.{ℕ, ◌+◌, ◌*◌, ◌/◌, List, [], ◌∷◌, Option, map, ℤ, pos, negsuc, ◌+ℤ◌, ◌-ℤ◌, unsigned_abs, nat_eq}
use Rattle.std.specs.List.{find, range_with_len}
use Rattle.std.specs.Option.{option_map}
use Rattle.std.specs.Cmp.Lexicographic.{pointwise}
use Rattle.ntru_codec.specs.Mixed.{mixed_encoding}
use Rattle.ntru_codec.specs.Small.{small_encoding}
use Rattle.ntru_model.specs.Parameters.{Parameters}
use Rattle.ntru_model.specs.Search.{lists_of}

-- the small coefficients with these bytes as their encoding
unfoldable pub small_read : ℕ → List ℕ → Option (List ℤ)
small_read n bytes = find (λ a. pointwise nat_eq (small_encoding a) bytes) (lists_of n (negsuc 0 ∷ pos 0 ∷ pos 1 ∷ []))

-- the digits below m with these bytes as their encoding
unfoldable pub mixed_read : ℕ → ℕ → List ℕ → Option (List ℕ)
mixed_read n m bytes = find (λ rs. pointwise nat_eq (mixed_encoding m rs) bytes) (lists_of n (range_with_len 0 m))

-- a centred coefficient modulo q, plus (q - 1)/2
abbrev pub digit_of : ℕ → ℤ → ℕ
digit_of q c = unsigned_abs (c +ℤ pos (q / 2))

-- a polynomial of centred coefficients modulo q
abbrev pub public_encoding : Parameters → List ℤ → List ℕ
public_encoding s h = mixed_encoding s.q (map (digit_of s.q) h)

abbrev pub public_read : Parameters → List ℕ → Option (List ℤ)
public_read s bytes = option_map (map (λ r. pos r -ℤ pos (s.q / 2))) (mixed_read s.p s.q bytes)

-- one whose coefficients are multiples of 3
abbrev pub rounded_encoding : Parameters → List ℤ → List ℕ
rounded_encoding s c = mixed_encoding ((s.q + 2) / 3) (map (λ d. digit_of s.q d / 3) c)

abbrev pub rounded_read : Parameters → List ℕ → Option (List ℤ)
rounded_read s bytes = option_map (map (λ r. pos (3 * r) -ℤ pos (s.q / 2))) (mixed_read s.p ((s.q + 2) / 3) bytes)
