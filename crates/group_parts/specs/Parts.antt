-- The bytes of a part: its origin of 1 byte, 1 for a key that the sender made; the key's number in 4 bytes, the highest
-- first; the ciphertext; and the sealed content with its tag of 32 bytes.
use Rattle.std.specs.Prelude.{◌≡◌, ℕ, ◌+◌, ◌^◌, ◌<◌, Bool, true, false, cond, ◌&&◌, nat_eq, nat_lt}
use Rattle.std.specs.Prelude.{◌∷◌, ◌++◌, length, take, drop, slice_index, All, Option, Some, None}
use Rattle.std.specs.Int.{w32, to_be_bytes, from_be_bytes}
use Rattle.kem_trait.specs.declared.kem.Kem.{Ghosts}
use Rattle.group_model.specs.Sets.{Bytes}
use Rattle.group_model.specs.Pairing.{Part}
use Rattle.group_parts.specs.Contents.{content_len}

-- each number is a byte
abbrev pub AreBytes : Bytes → Type 0
AreBytes bytes = All (λ byte. byte < 256) bytes

-- 1 for a key that the sender made, 0 for one that the receiver made
abbrev pub origin_of : (made_by_sender : Bool) → ℕ
origin_of true = 1
origin_of false = 0

module _ {K P : Type 0} (kem : Ghosts K P) where
  -- how many bytes a sealed content has with its tag, and a part
  abbrev pub sealed_len : ℕ
  sealed_len = content_len kem + 32

  abbrev pub part_len : ℕ
  part_len = 1 + (4 + (kem.CIPHER_LEN + sealed_len))

  -- the fields have their sizes
  pub record IsSized (part : Part) : Type 0 where
    pub number : part.number < 2 ^ 32
    pub ciphertext : length part.ciphertext ≡ kem.CIPHER_LEN
    pub sealed : length part.sealed ≡ sealed_len

  -- the bytes of a part
  unfoldable pub part_bytes : Part → Bytes
  part_bytes part =
      origin_of part.made_by_sender ∷ (to_be_bytes w32 part.number ++ (part.ciphertext ++ part.sealed))

  -- the fields of bytes of the right length
  abbrev pub part_in : Bytes → Part
  part_in bytes = record {
    made_by_sender = nat_eq (slice_index bytes 0) 1;
    number = from_be_bytes w32 (take 4 (drop 1 bytes));
    ciphertext = take kem.CIPHER_LEN (drop 5 bytes);
    sealed = drop (5 + kem.CIPHER_LEN) bytes;
  }

  -- the part whose bytes these are, where there is one
  unfoldable pub part_read : Bytes → Option Part
  part_read bytes =
      cond (nat_eq (length bytes) part_len && nat_lt (slice_index bytes 0) 2) (Some (part_in bytes)) None
