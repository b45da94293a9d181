-- The whole encoding, round by round.
use Rattle.std.proofs.Common.{◌≡◌, ℕ, zero, suc, ◌+◌, ◌/◌, ◌%◌, ◌≤◌, List, [], ◌∷◌, ◌++◌, length, refl, ap, arith}
use Rattle.std.proofs.Common.{true, false, cond}
use Rattle.std.specs.Bool.{nat_le}
use Rattle.ntru_codec.specs.Mixed.{Digit, digit, without_byte, given_off, round_bytes, next_round, encoding_in, encoding}
use Rattle.ntru_codec.specs.Rows.{low_bytes}

pub length-next_round : (ds : List Digit) → length (next_round ds) ≡ (length ds + 1) / 2
unfolding next_round
length-next_round [] = refl
length-next_round (d ∷ []) = refl
length-next_round (d ∷ e ∷ ds) = omega (arith, length-next_round ds)

-- more rounds than there are digits change nothing
enough_rounds : (n m : ℕ) (ds : List Digit) → length ds ≤ n → length ds ≤ m → encoding_in n ds ≡ encoding_in m ds
unfolding encoding_in
enough_rounds zero zero [] h g = refl
enough_rounds zero (suc m) [] h g = refl
enough_rounds (suc n) zero [] h g = refl
enough_rounds (suc n) (suc m) [] h g = refl
enough_rounds zero m (d ∷ ds) h g = absurd (omega arith)
enough_rounds (suc n) zero (d ∷ ds) h g = absurd (omega arith)
enough_rounds (suc n) (suc m) (d ∷ []) h g = refl
enough_rounds (suc n) (suc m) (d ∷ e ∷ ds) h g =
    let shorter = length-next_round (d ∷ e ∷ ds) in
    ap (λ xs. round_bytes (d ∷ e ∷ ds) ++ xs) (enough_rounds n m (next_round (d ∷ e ∷ ds)) (omega arith) (omega arith))

pub encoding-round : (ds : List Digit) → 2 ≤ length ds → encoding ds ≡ round_bytes ds ++ encoding (next_round ds)
unfolding encoding_in
encoding-round [] h = absurd (omega arith)
encoding-round (d ∷ []) h = absurd (omega arith)
encoding-round (d ∷ e ∷ ds) h =
    let shorter = length-next_round (d ∷ e ∷ ds) in
    ap (λ xs. round_bytes (d ∷ e ∷ ds) ++ xs) (enough_rounds (suc (length ds)) (length (next_round (d ∷ e ∷ ds))) (next_round (d ∷ e ∷ ds)) (omega arith) (omega arith))

pub encoding-one : (d : Digit) → encoding (d ∷ []) ≡ given_off 4 2 d
unfolding encoding_in
encoding-one d = refl

-- what a digit gives off are its lowest bytes, as many as there are
pub given_off-low : (n limit v m : ℕ) → given_off n limit (digit v m) ≡ low_bytes (length (given_off n limit (digit v m))) v
unfolding given_off low_bytes
given_off-low zero limit v m = refl
given_off-low (suc n) limit v m =
    elim (nat_le limit m) as (λ t. cond t (v % 256 ∷ given_off n limit (without_byte (digit v m))) [] ≡ low_bytes (length (cond t (v % 256 ∷ given_off n limit (without_byte (digit v m))) [])) v) [
      | true ↦ ap (λ xs. v % 256 ∷ xs) (given_off-low n limit (v / 256) ((m + 255) / 256))
      | false ↦ refl
    ]
