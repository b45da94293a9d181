-- Bits of a number, and of a list of words of 64 bits.
use Rattle.std.specs.Prelude.{ℕ, ◌/◌, ◌%◌, Bool, nat_eq, List, slice_index}
use Rattle.std.specs.Int.{bit_at}

-- bit p of the number
unfoldable pub bit : ℕ → ℕ → Bool
bit n p = nat_eq (bit_at n p) 1

-- bit i of the words
unfoldable pub mark : List ℕ → ℕ → Bool
mark words i = nat_eq (bit_at (slice_index words (i / 64)) (i % 64)) 1
