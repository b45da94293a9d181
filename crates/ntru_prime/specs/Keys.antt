-- Pairs and public keys by their bytes.
use Rattle.std.specs.Prelude.{ℕ, ◌+◌, Bool, Option, List, take, drop, is_some}
use Rattle.std.specs.Option.{option_map}
use Rattle.ntru_model.specs.Parameters.{Parameters, public_len, small_len}
use Rattle.kem_trait.specs.Streams.{Stream}
use Rattle.ntru_model.specs.Encodings.{public_read}
use Rattle.ntru_model.specs.Pairs.{pair_drawn, secret_key, secret_read}

-- the secret key that words give
unfoldable pub made : Parameters → Stream → Option (List ℕ)
made s words = option_map (secret_key s) (pair_drawn s words)

-- the bytes are the secret key of a tested pair
unfoldable pub is_secret : Parameters → List ℕ → Bool
is_secret s bytes = is_some (secret_read s bytes)

-- the public key in a secret key
abbrev pub public_in : Parameters → List ℕ → List ℕ
public_in s secret = take (public_len s) (drop (small_len s + small_len s) secret)

-- the bytes are the encoding of a polynomial of centred coefficients
unfoldable pub is_public : Parameters → List ℕ → Bool
is_public s bytes = is_some (public_read s bytes)
