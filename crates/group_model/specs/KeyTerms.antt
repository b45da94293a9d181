-- Key terms, the bytes that they stand for, and how a message moves its sender's ratchet.
-- The DCGKA paper's ratchet of each sender and its update secrets; docs/GROUP.md, "Primitives and
-- key terms".
use Rattle.std.specs.Prelude.{true, false, [], Option, Some, None, option_map, replicate, codes}
use Rattle.group_model.specs.Sets.{Bytes, Id}
use Rattle.group_model.specs.Messages.{Kind, Create, Update, Remove, Add, Ack, AddAck, Text}
use Rattle.group_model.specs.Primitives.{Primitives}

-- the ratchet before a sender's first message, and the two words that serve as inputs
unfoldable pub empty_ratchet : Bytes
empty_ratchet = replicate 32 0

unfoldable pub welcome_word : Bytes
welcome_word = codes "welcome"

unfoldable pub add_word : Bytes
add_word = codes "add"

module _ (K : Primitives) where
  -- the seed of an operation, from the step's random bytes
  unfoldable pub seed_of : (random : Bytes) → Bytes
  seed_of random = K.derive random (codes "seed") []

  -- the member secret of y under a seed
  unfoldable pub member_secret : (seed : Bytes) → Id → Bytes
  member_secret seed y = K.derive seed (codes "member") y

  -- the first chain of an update secret; the next chain, and the message key, of a chain
  unfoldable pub first_chain : (secret : Bytes) → Bytes
  first_chain secret = K.derive secret (codes "chain") []

  unfoldable pub next_chain : (chain : Bytes) → Bytes
  next_chain chain = K.derive chain (codes "next") []

  unfoldable pub message_key : (chain : Bytes) → Bytes
  message_key chain = K.derive chain (codes "text") []

pub data Term : Type 0 where
  Empty : Term
  Welcome : Term
  AddWord : Term
  Value : (value : Bytes) → Term
  Member : (key : Term) → (of : Id) → Term
  Next : (ratchet : Term) → (input : Term) → Term
  Out : (ratchet : Term) → (input : Term) → Term

-- the bytes of a term
abbrev pub bytes : Primitives → Term → Bytes
bytes K Empty = empty_ratchet
bytes K Welcome = welcome_word
bytes K AddWord = add_word
bytes K (Value v) = v
bytes K (Member k y) = member_secret K (bytes K k) y
bytes K (Next r i) = K.next (bytes K r) (bytes K i)
bytes K (Out r i) = K.out (bytes K r) (bytes K i)

-- how a message moves its sender's ratchet: not at all, once by an input, or as an add does, by
-- "welcome" and then by "add"
pub data Motion (A : Type 0) : Type 0 where
  Stays : Motion A
  Once : (input : A) → Motion A
  Twice : Motion A

-- the ratchet after the motion
abbrev pub turned : Motion Term → Term → Term
turned Stays r = r
turned (Once i) r = Next r i
turned Twice r = Next (Next r Welcome) AddWord

-- the update secret of the motion
abbrev pub secret : Motion Term → Term → Option Term
secret Stays r = None
secret (Once i) r = Some (Out r i)
secret Twice r = Some (Out (Next r Welcome) AddWord)

-- the same on bytes
abbrev pub turned_bytes : Primitives → Motion Bytes → Bytes → Bytes
turned_bytes K Stays r = r
turned_bytes K (Once i) r = K.next r i
turned_bytes K Twice r = K.next (K.next r welcome_word) add_word

abbrev pub secret_bytes : Primitives → Motion Bytes → Bytes → Option Bytes
secret_bytes K Stays r = None
secret_bytes K (Once i) r = Some (K.out r i)
secret_bytes K Twice r = Some (K.out (K.next r welcome_word) add_word)

-- where both the motion and the ratchet are known
abbrev pub turned_known : Primitives → Option (Motion Bytes) → Option Bytes → Option Bytes
turned_known K None r = None
turned_known K (Some m) None = None
turned_known K (Some m) (Some r) = Some (turned_bytes K m r)

abbrev pub secret_known : Primitives → Option (Motion Bytes) → Option Bytes → Option Bytes
secret_known K None r = None
secret_known K (Some m) None = None
secret_known K (Some m) (Some r) = secret_bytes K m r

-- what a message of the kind does to keys: it sends a seed, adds a member, takes the secret of an operation, hands on a
-- ratchet, spends a message key, or leaves them
pub data KeyUse : Type 0 where
  SendsSeed : KeyUse
  AddsMember : (target : Id) → KeyUse
  TakesSecret : (operation : Id) → KeyUse
  HandsRatchet : KeyUse
  SpendsKey : KeyUse
  LeavesKeys : KeyUse

abbrev pub key_use : Kind → KeyUse
key_use (Create members) = SendsSeed
key_use Update = SendsSeed
key_use (Remove y) = SendsSeed
key_use (Add y) = AddsMember y
key_use (Ack i true) = TakesSecret i
key_use (Ack i false) = LeavesKeys
key_use (AddAck i) = HandsRatchet
key_use Text = SpendsKey

-- the sender's text chain after a message, from its update secret and the chain before it: an update
-- secret starts the chain anew, and a text spends its next message key
abbrev pub chain_by_use : Primitives → KeyUse → (secret prior : Option Bytes) → Option Bytes
chain_by_use K SendsSeed u k = option_map (first_chain K) u
chain_by_use K (AddsMember y) u k = option_map (first_chain K) u
chain_by_use K (TakesSecret i) u k = option_map (first_chain K) u
chain_by_use K HandsRatchet u k = option_map (first_chain K) u
chain_by_use K SpendsKey u k = option_map (next_chain K) k
chain_by_use K LeavesKeys u k = k

abbrev pub chain_after : Primitives → Kind → (secret prior : Option Bytes) → Option Bytes
chain_after K k u prior = chain_by_use K (key_use k) u prior
