-- What a member is by the step that made it: its key pair, its signing tree and its card. Each secret of it is derived from
-- the random bytes under a label of its own.
use Rattle.std.specs.Prelude.{◌≡◌, ℕ, IsTrue, ◌==◌, ◌&&◌, ◌||◌, List, [], take, codes, Option, Some}
use Rattle.std.specs.Option.{option_map}
use Rattle.hkdf_seal.specs.Keys.{kdf}
use Rattle.lms_sign.specs.Trees.{LmsTree, lms_public}
use Rattle.sha2.specs.Sha256.{sha256}
use Rattle.group_fields.specs.Cards.{Spells, spelling}
use Rattle.group_fields.specs.declared.card.Card.{Card}
use Rattle.kem_trait.specs.Streams.{Stream, words_of_seed}
use Rattle.kem_trait.specs.declared.kem.Kem.{Ghosts}

-- the inviter's id, 32 zero bytes for nobody, and the 32 random bytes that were drawn
pub record Origin : Type 0 where
  pub inviter : List ℕ
  pub random : List ℕ

-- a tree, and the bytes of a card
pub record KeysValue : Type 0 where
  pub tree : LmsTree
  pub card : List ℕ

-- the bytes spell a card, whose id is the digest of them
pub record IsShown (bytes id : List ℕ) : Type 0 where
  pub value : Card
  pub spells : Spells value bytes
  pub has_id : id ≡ sha256 bytes

-- the words that the key pair is drawn from: those of the derived seed
abbrev pub pair_words : List ℕ → Stream
pair_words random = words_of_seed (kdf random (codes "kem") [])

-- the LMS tree of a height that the member signs with (RFC 8554, section 5): I is the first 16 bytes of a derived key, and
-- SEED is another derived key
abbrev pub signing_tree : ℕ → List ℕ → LmsTree
signing_tree height random =
    record {
      height = height;
      id = take 16 (kdf random (codes "lms id") []);
      seed = kdf random (codes "lms seed") [];
    }

module _ {K P : Type 0} (kem : Ghosts K P) where
  -- the secret key of the member's pair, where the words give a usable one
  unfoldable pub secret_from : List ℕ → Option (List ℕ)
  secret_from random = kem.made (pair_words random)

  -- the card of a member with this secret key; its LMS public key is that of its tree of the height
  abbrev pub card_with : ℕ → Origin → List ℕ → Card
  card_with height origin secret =
      record {
        set = kem.SET;
        lms_public = lms_public (signing_tree height origin.random);
        inviter = record { 0 = record { 0 = origin.inviter } };
        kem_public = kem.public_in secret;
      }

  -- the member's card, where the words give a usable key
  unfoldable pub card_of : ℕ → Origin → Option Card
  card_of height origin = option_map (card_with height origin) (secret_from origin.random)

  -- the bytes that spell it
  unfoldable pub card_bytes : ℕ → Origin → Option (List ℕ)
  card_bytes height origin = option_map spelling (card_of height origin)

  -- The keys are those of the member of a height: its tree, and the bytes of its card.
  pub record AreKeysOf (height : ℕ) (origin : Origin) (keys : KeysValue) : Type 0 where
    pub tree : keys.tree ≡ signing_tree height origin.random
    pub card : card_bytes height origin ≡ Some keys.card

  -- The members of an encapsulation have cards at a height: it is 10 with set 1, and 5 or 10 with set 2.
  pub record HasCards (height : ℕ) : Type 0 where
    pub is_height : IsTrue ((height == 10) || ((kem.SET == 2) && (height == 5)))
