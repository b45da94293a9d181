-- The content of a part as bytes: the payload of 32 bytes, the receiver's new secret key, the number of the send in 4
-- bytes, the highest first, and the sender's new public key.
use Rattle.std.specs.Prelude.{ℕ, ◌+◌, ◌^◌, Bool, cond, ◌&&◌, nat_eq, nat_lt, ◌++◌, length, take, drop}
use Rattle.std.specs.Prelude.{Option, Some, None}
use Rattle.std.specs.Int.{w32, to_be_bytes, from_be_bytes}
use Rattle.kem_trait.specs.declared.kem.Kem.{Ghosts}
use Rattle.group_model.specs.Sets.{Bytes}
use Rattle.group_model.specs.Primitives.{Content}

module _ {K P : Type 0} (kem : Ghosts K P) where
  abbrev pub content_len : ℕ
  content_len = 32 + (kem.SECRET_LEN + (4 + kem.PUBLIC_LEN))

  -- the payload has 32 bytes, the secret key is a tested pair's, the number is from 1 to 2 ^ 32 - 1, and the public key
  -- is one
  abbrev pub is_content : Content → Bool
  is_content c =
      nat_eq (length c.payload) 32 && (kem.is_secret c.secret
      && ((nat_lt 0 c.number && nat_lt c.number (2 ^ 32)) && kem.is_public c.public))

  abbrev pub content_bytes : Content → Bytes
  content_bytes c = c.payload ++ (c.secret ++ (to_be_bytes w32 c.number ++ c.public))

  -- the fields of bytes of the right length
  abbrev pub content_in : Bytes → Content
  content_in bytes = record {
    payload = take 32 bytes;
    secret = take kem.SECRET_LEN (drop 32 bytes);
    number = from_be_bytes w32 (take 4 (drop (32 + kem.SECRET_LEN) bytes));
    public = drop (32 + kem.SECRET_LEN + 4) bytes;
  }

  -- the bytes of a content, where it may be written
  unfoldable pub content_written : Content → Option Bytes
  content_written c = cond (is_content c) (Some (content_bytes c)) None

  -- the content whose bytes these are, where there is one
  unfoldable pub content_read : Bytes → Option Content
  content_read bytes =
      cond (nat_eq (length bytes) content_len && is_content (content_in bytes)) (Some (content_in bytes)) None
