-- Sealed texts: a text under a key stream, and a tag over the result.
use Rattle.std.specs.Prelude.{ℕ, zero, suc, ◌+◌, ◌-◌, ◌/◌, List, [], ◌∷◌, ◌++◌, length, take, drop, bit_xor, codes, bytes_eq, Option, Some, None, if◌then◌else◌}
use Rattle.byteorder.specs.Endian.{little_bytes}
use Rattle.rand_chacha.specs.ChaCha.{word_at, key_of}
use Rattle.hkdf_seal.specs.Keys.{hmac, kdf}

-- word n of the stream of ChaCha with 20 rounds under a key of 32 bytes (RFC 8439, section 2.3)
unfoldable pub stream_word : List ℕ → ℕ → ℕ
stream_word key n = word_at 10 (key_of key) 0 n

-- the bytes of the first n words, each word little-endian
unfoldable pub stream : List ℕ → ℕ → List ℕ
stream key zero = []
stream key (suc n) = stream key n ++ little_bytes 4 (stream_word key n)

-- byte by byte, as far as both lists go
unfoldable pub xor_bytes : List ℕ → List ℕ → List ℕ
xor_bytes [] ks = []
xor_bytes (x ∷ xs) [] = []
xor_bytes (x ∷ xs) (k ∷ ks) = bit_xor x k ∷ xor_bytes xs ks

-- a text xor the key stream
unfoldable pub xor_stream : List ℕ → List ℕ → List ℕ
xor_stream key text = xor_bytes text (stream key ((length text + 3) / 4))

-- what a text becomes under a key
unfoldable pub sealed : List ℕ → List ℕ → List ℕ
sealed key text = xor_stream (kdf key (codes "stream") []) text

-- the tag over a sealed text
unfoldable pub tag_of : List ℕ → List ℕ → List ℕ
tag_of key body = hmac (kdf key (codes "mac") []) body

-- a text sealed, with its tag behind it
unfoldable pub sealed_with_tag : List ℕ → List ℕ → List ℕ
sealed_with_tag key text = sealed key text ++ tag_of key (sealed key text)

-- what a sealed text opens to: nothing where the tag isn't its own
abbrev pub opened_by_tag : (key body tag : List ℕ) → Option (List ℕ)
opened_by_tag key body tag = if bytes_eq tag (tag_of key body) then Some (sealed key body) else None

-- what bytes open to whose last 32 are the tag
unfoldable pub opened : List ℕ → List ℕ → Option (List ℕ)
opened key bytes = opened_by_tag key (take (length bytes - 32) bytes) (drop (length bytes - 32) bytes)
