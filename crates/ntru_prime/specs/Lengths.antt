-- A set with the lengths of its keys and ciphertexts as numbers.
use Rattle.std.proofs.Common.{◌≡◌, inl, inr, refl, ℕ}
use Rattle.ntru_model.specs.Parameters.{Parameters, IsKnown, sntrup761, drill37, public_len, secret_len, cipher_len}
use Rattle.ntru_model.proofs.Counts.{large_public, large_secret, large_cipher, little_public, little_secret, little_cipher}

-- one of the two sets, by the lengths of its secret keys, public keys and ciphertexts
pub record HasLengths (s : Parameters) (secret public cipher : ℕ) : Type 0 where
  pub known : IsKnown s
  pub of_secret : secret_len s ≡ secret
  pub of_public : public_len s ≡ public
  pub of_cipher : cipher_len s ≡ cipher

pub large_lengths : HasLengths sntrup761 1763 1158 1039
large_lengths = record { known = inl refl; of_secret = large_secret; of_public = large_public; of_cipher = large_cipher }

pub little_lengths : HasLengths drill37 95 33 58
little_lengths = record { known = inr refl; of_secret = little_secret; of_public = little_public; of_cipher = little_cipher }
