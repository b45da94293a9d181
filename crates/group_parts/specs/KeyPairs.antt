-- Key pairs and encapsulations, by the words of a seed.
use Rattle.std.specs.Prelude.{Bool, ◌&&◌, Option, option_map, bytes_eq}
use Rattle.kem_trait.specs.Encapsulated.{Encapsulated}
use Rattle.kem_trait.specs.Streams.{words_of_seed}
use Rattle.kem_trait.specs.declared.kem.Kem.{Ghosts}
use Rattle.group_model.specs.Sets.{Bytes}
use Rattle.group_model.specs.Primitives.{KeyPair, Encapsulation}

-- the two parts of an encapsulation
abbrev pub as_encapsulation : Encapsulated → Encapsulation
as_encapsulation e = record { key = e.key; ciphertext = e.cipher }

module _ {K P : Type 0} (kem : Ghosts K P) where
  -- the secret key is that of a tested pair, and the public key the one in it
  unfoldable pub is_pair : (secret public : Bytes) → Bool
  is_pair secret public = kem.is_secret secret && bytes_eq public (kem.public_in secret)

  -- the pair of a secret key
  abbrev pub pair_of : (secret : Bytes) → KeyPair
  pair_of secret = record { secret = secret; public = kem.public_in secret }

  -- the pair that a seed gives, where it gives a usable one
  unfoldable pub made_pair : (seed : Bytes) → Option KeyPair
  made_pair seed = option_map pair_of (kem.made (words_of_seed seed))

  -- what is encapsulated to a public key by a seed
  unfoldable pub encapsulation : (public seed : Bytes) → Option Encapsulation
  encapsulation public seed = option_map as_encapsulation (kem.encapsulated public (words_of_seed seed))
