-- The primitives, as one record with their laws. A statement that takes this record holds for each choice of them. The
-- DCGKA paper's KDF, PKE and AEAD; docs/GROUP.md, "Primitives and key terms".
use Rattle.std.specs.Prelude.{◌≡◌, ℕ, Bool, true, Option, Some}
use Rattle.group_model.specs.Sets.{Bytes}

pub record KeyPair : Type 0 where
  pub secret : Bytes
  pub public : Bytes

-- an encapsulated key, and the ciphertext that gives it to the owner of the secret key
pub record Encapsulation : Type 0 where
  pub key : Bytes
  pub ciphertext : Bytes

-- what is sealed in a part: the payload, the receiver's new secret key, the number of the send, and
-- the sender's new public key
pub record Content : Type 0 where
  pub payload : Bytes
  pub secret : Bytes
  pub number : ℕ
  pub public : Bytes

pub record Primitives : Type 0 where
  -- key derivation from a key, a label and an id
  pub derive : (key label id : Bytes) → Bytes
  -- the two outputs of a ratchet's step: the next ratchet, and the update secret
  pub next : (ratchet input : Bytes) → Bytes
  pub out : (ratchet input : Bytes) → Bytes
  -- sealing of a text under a key, with its tag
  pub seal : (key text : Bytes) → Bytes
  pub unseal : (key sealed : Bytes) → Option Bytes
  -- key pairs, made from a seed where it gives a usable key; a pair is tested before it is used
  pub is_pair : (secret public : Bytes) → Bool
  pub make : (seed : Bytes) → Option KeyPair
  -- key encapsulation to a public key, from a seed where it gives a usable key
  pub encapsulate : (public seed : Bytes) → Option Encapsulation
  pub decapsulate : (secret ciphertext : Bytes) → Option Bytes
  -- the bytes of a part's content, where it has some, and their tested reading
  pub write : Content → Option Bytes
  pub read : Bytes → Option Content
  pub unseal_seal : (key text : Bytes) → unseal key (seal key text) ≡ Some text
  pub made_pair : (seed : Bytes) (pair : KeyPair) → make seed ≡ Some pair → is_pair pair.secret pair.public ≡ true
  pub decapsulate_encapsulate : (secret public seed : Bytes) (e : Encapsulation) → is_pair secret public ≡ true
      → encapsulate public seed ≡ Some e → decapsulate secret e.ciphertext ≡ Some e.key
  pub read_write : (content : Content) (bytes : Bytes) → write content ≡ Some bytes → read bytes ≡ Some content
