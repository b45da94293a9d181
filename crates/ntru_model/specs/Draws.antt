-- Polynomials and bytes drawn from a stream of words of 32 bits.
use Rattle.std.specs.Prelude.{ℕ, zero, suc, ◌+◌, ◌*◌, ◌/◌, ◌%◌, ◌^◌, Option, Some, None, List, [], ◌∷◌, map, take, ℤ, nat_lt, nat_le, if◌then◌else◌}
use Rattle.std.specs.List.{flat_map, range_with_len}
use Rattle.byteorder.specs.Endian.{little_bytes}
use Rattle.kem_trait.specs.Streams.{Stream, behind}
use Rattle.ntru_codec.specs.Small.{coefficient_of}

-- three times the low 30 bits, divided by 2 ^ 30: 0, 1 and 2 stand for -1, 0 and 1
abbrev pub small_coefficient : ℕ → ℤ
small_coefficient word = coefficient_of (word % 2 ^ 30 * 3 / 2 ^ 30)

-- a small polynomial: p words, that of coefficient 0 first
unfoldable pub small_draw : ℕ → Stream → List ℤ
small_draw p words = map (λ n. small_coefficient (words n)) (range_with_len 0 p)

-- In the first w words the lowest bit is cleared; in the others the lowest two bits are made 01.
abbrev pub marked : ℕ → ℕ → ℕ → ℕ
marked w n word = if nat_lt n w then word / 2 * 2 else word / 4 * 4 + 1

-- a number in its place among ascending numbers, and numbers in ascending order
abbrev pub inserted : ℕ → List ℕ → List ℕ
inserted x [] = x ∷ []
inserted x (y ∷ ys) = if nat_le x y then x ∷ y ∷ ys else y ∷ inserted x ys

abbrev pub ascending : List ℕ → List ℕ
ascending [] = []
ascending (x ∷ xs) = inserted x (ascending xs)

-- a short polynomial: p words, marked and then sorted; the lowest two bits, less 1, are the coefficients
unfoldable pub short_draw : ℕ → ℕ → Stream → List ℤ
short_draw p w words =
    map (λ word. coefficient_of (word % 4)) (ascending (map (λ n. marked w n (words n)) (range_with_len 0 p)))

-- the first n bytes of the words, each little-endian
unfoldable pub bytes_draw : ℕ → Stream → List ℕ
bytes_draw n words = take n (flat_map (λ k. little_bytes 4 (words k)) (range_with_len 0 ((n + 3) / 4)))

-- a drawn polynomial with its inverse, and the words behind its own
pub record Invertible : Type 0 where
  pub drawn : List ℤ
  pub inverse : List ℤ
  pub left : Stream

-- of at most `tries` draws of p words each, the first that has an inverse
unfoldable pub first_invertible : ℕ → ℕ → (Stream → List ℤ) → (List ℤ → Option (List ℤ)) → Stream → Option Invertible
first_invertible p zero draw invert words = None
first_invertible p (suc tries) draw invert words = elim (invert (draw words)) [
  | Some inverse ↦ Some (record { drawn = draw words; inverse = inverse; left = behind p words })
  | None ↦ first_invertible p tries draw invert (behind p words)
]

-- how many words those draws take, with the failed ones
unfoldable pub words_tried : ℕ → ℕ → (Stream → List ℤ) → (List ℤ → Option (List ℤ)) → Stream → ℕ
words_tried p zero draw invert words = 0
words_tried p (suc tries) draw invert words = elim (invert (draw words)) [
  | Some inverse ↦ p
  | None ↦ p + words_tried p tries draw invert (behind p words)
]
