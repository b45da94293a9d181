-- The words that a generator gives under the derived seed.
use Rattle.std.proofs.Common.{◌≡◌, List, ℕ, [], Some, IsSome, codes, sym, ◌∙◌, ap, rules}
use Rattle.hkdf_seal.specs.Keys.{kdf}
use Rattle.kem_trait.specs.Streams.{Stream, words_of_seed}
use Rattle.kem_trait.specs.declared.kem.Kem.{Ghosts}
use Rattle.member_identity.specs.Identity.{pair_words, secret_from}

pub same_words : (random seed : List ℕ) (words : Stream) → seed ≡ kdf random (codes "kem") [] → words ≡ words_of_seed seed → words ≡ pair_words random
same_words random seed words is given = given ∙ ap words_of_seed is

module _ {K P : Type 0} (kem : Ghosts K P) (random seed : List ℕ) (words : Stream) (is : seed ≡ kdf random (codes "kem") [])
    (given : words ≡ words_of_seed seed) where
  -- what the generator's words give is what the member's words give
  pub same_secret : kem.made words ≡ secret_from kem random
  unfolding secret_from
  same_secret = ap kem.made (same_words random seed words is given)

  pub has_secret : (secret : List ℕ) → kem.made words ≡ Some secret → IsSome (secret_from kem random)
  has_secret secret made = let found : secret_from kem random ≡ Some secret = sym same_secret ∙ made in rw found (search rules)
