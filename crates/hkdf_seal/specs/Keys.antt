-- HMAC (RFC 2104) and HKDF (RFC 5869), both with SHA-256, and the derivation of keys by a label.
-- Keys, texts and digests are lists of bytes.
use Rattle.std.specs.Prelude.{ℕ, zero, suc, ◌+◌, ◌-◌, ◌/◌, List, [], ◌∷◌, ◌++◌, length, map, take, replicate, bit_xor, nat_lt, if◌then◌else◌, codes}
use Rattle.sha2.specs.Sha256.{sha256}

-- a key as one block of 64 bytes: a longer key is hashed first, and zeros fill it up (RFC 2104, section 2)
abbrev pub filled_up : List ℕ → List ℕ
filled_up key = key ++ replicate (64 - length key) 0

unfoldable pub block_key : List ℕ → List ℕ
block_key key = filled_up (if nat_lt 64 (length key) then sha256 key else key)

-- each byte of a block, xor one byte
unfoldable pub xor_all : ℕ → List ℕ → List ℕ
xor_all pad block = map (λ byte. bit_xor byte pad) block

-- H((K xor opad) | H((K xor ipad) | text)) (RFC 2104, section 2)
unfoldable pub hmac : List ℕ → List ℕ → List ℕ
hmac key text =
    sha256 (xor_all 0x5c (block_key key) ++ sha256 (xor_all 0x36 (block_key key) ++ text))

-- the pseudorandom key PRK (RFC 5869, section 2.2)
unfoldable pub extract : List ℕ → List ℕ → List ℕ
extract salt ikm = hmac salt ikm

-- T(i): T(0) is empty, and T(i) = hmac(PRK, T(i - 1) | info | i), with i as one byte (RFC 5869, section 2.3)
unfoldable pub block : List ℕ → List ℕ → ℕ → List ℕ
block prk info zero = []
block prk info (suc i) = hmac prk (block prk info i ++ info ++ suc i ∷ [])

-- T(1) | T(2) | .. | T(n)
unfoldable pub blocks : List ℕ → List ℕ → ℕ → List ℕ
blocks prk info zero = []
blocks prk info (suc n) = blocks prk info n ++ block prk info (suc n)

-- the first len bytes of T(1) | .. | T(n), where n is len / 32, rounded up (RFC 5869, section 2.3).
-- The standard has this for a len of at most 255 * 32.
unfoldable pub expand : List ℕ → List ℕ → ℕ → List ℕ
expand prk info len = take len (blocks prk info ((len + 31) / 32))

-- the key of 32 bytes that a key gives under a label and an id
unfoldable pub kdf : List ℕ → List ℕ → List ℕ → List ℕ
kdf key label id = expand (extract (codes "dcgka v1") key) (label ++ id) 32
