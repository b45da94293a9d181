-- Encapsulation of a key to a public key, and decapsulation by the secret key.
use Rattle.std.specs.Prelude.{ℕ, ◌-◌, Option, List, ◌++◌, map, take, replicate, ℤ, pos, nat_eq, if◌then◌else◌}
use Rattle.std.specs.List.{count_by}
use Rattle.std.specs.Option.{option_map, option_and_then}
use Rattle.std.specs.Cmp.Lexicographic.{pointwise}
use Rattle.ring_laws.specs.Laws.{multiple_of, is_nonzero}
use Rattle.kem_trait.specs.Encapsulated.{Encapsulated}
use Rattle.ntru_codec.specs.Small.{small_encoding}
use Rattle.ntru_model.specs.Parameters.{Parameters, core_len}
use Rattle.ntru_model.specs.Residues.{centred, product_mod, nearest_triple}
use Rattle.kem_trait.specs.Streams.{Stream}
use Rattle.ntru_model.specs.Draws.{short_draw}
use Rattle.ntru_model.specs.Encodings.{public_read, rounded_encoding, rounded_read}
use Rattle.ntru_model.specs.Pairs.{KeyPair, hash, public_key, secret_read}

-- the ciphertext of a short r: h r with each coefficient at its nearest multiple of 3, and a hash of r that binds the
-- public key
unfoldable pub cipher_of : Parameters → (h : List ℤ) → (public : List ℕ) → (r : List ℤ) → List ℕ
cipher_of s h public r =
    rounded_encoding s (map nearest_triple (product_mod s.p s.q h r)) ++ hash 2 (hash 3 (small_encoding r) ++ hash 4 public)

-- the key of r under a ciphertext, and that which stands for it where the ciphertext isn't that of r
abbrev pub key_of : List ℤ → List ℕ → List ℕ
key_of r cipher = hash 1 (hash 3 (small_encoding r) ++ cipher)

abbrev pub refused_key : List ℕ → List ℕ → List ℕ
refused_key rho cipher = hash 0 (hash 3 rho ++ cipher)

-- what is written to the public key of h for r
abbrev pub encapsulation : Parameters → (h : List ℤ) → (public : List ℕ) → (r : List ℤ) → Encapsulated
encapsulation s h public r = record { cipher = cipher_of s h public r; key = key_of r (cipher_of s h public r) }

-- to the bytes of a public key, with r drawn from words; nothing where the bytes are none
unfoldable pub encapsulated : Parameters → (public : List ℕ) → Stream → Option Encapsulated
encapsulated s public words =
    option_map (λ h. encapsulation s h public (short_draw s.p s.w words)) (public_read s public)

-- r from the polynomial of a ciphertext: 3 f times it, modulo q and then modulo 3, times the inverse of g
abbrev pub r_found : Parameters → KeyPair → List ℤ → List ℤ
r_found s pair core =
    product_mod s.p 3 (map (centred 3) (product_mod s.p s.q (multiple_of (pos 3) pair.f) core)) pair.g_inverse

-- w ones stand for it where it hasn't w coefficients that aren't 0
abbrev pub r_of : Parameters → List ℤ → List ℤ
r_of s r = if nat_eq (count_by is_nonzero r) s.w then r else replicate s.w (pos 1) ++ replicate (s.p - s.w) (pos 0)

-- the key of r where the ciphertext is that of r, else the refused key
abbrev pub answer : Parameters → KeyPair → List ℕ → List ℤ → List ℕ
answer s pair cipher r =
    if pointwise nat_eq (cipher_of s pair.h (public_key s pair) r) cipher then key_of r cipher else refused_key pair.rho cipher

-- the key in a ciphertext; nothing where its polynomial isn't spelled
unfoldable pub decapsulated : Parameters → KeyPair → List ℕ → Option (List ℕ)
decapsulated s pair cipher =
    option_map (λ core. answer s pair cipher (r_of s (r_found s pair core))) (rounded_read s (take (core_len s) cipher))

-- by the bytes of a secret key
unfoldable pub decapsulated_by : Parameters → (secret cipher : List ℕ) → Option (List ℕ)
decapsulated_by s secret cipher = option_and_then (λ pair. decapsulated s pair cipher) (secret_read s secret)
