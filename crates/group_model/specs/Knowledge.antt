-- What a member knows, by its log alone: of each sender's ratchet, of each update secret, of each text
-- chain, and of each text. The DCGKA paper's member state, as what it stands for;
-- docs/GROUP.md, "Knowledge".
-- K are the primitives, self is the member that knows, and card the key pair of its own card; l is its log, newest
-- entry first, and e an entry behind it; s is a sender, and i the id of an operation. It reads nothing else.
use Rattle.std.specs.Prelude.{cond, List, [], ◌∷◌, Option, Some, None, bytes_eq, option_map}
use Rattle.std.specs.Option.{option_and_then}
use Rattle.group_model.specs.Sets.{Bytes, Id}
use Rattle.group_model.specs.Messages.{Kind, Message, History}
use Rattle.group_model.specs.Primitives.{KeyPair, Content, Primitives}
use Rattle.group_model.specs.KeyTerms.{Motion, Stays, Once, Twice, turned_known, secret_known, KeyUse, SendsSeed}
use Rattle.group_model.specs.KeyTerms.{AddsMember, TakesSecret, HandsRatchet, SpendsKey, LeavesKeys, key_use}
use Rattle.group_model.specs.KeyTerms.{chain_after, empty_ratchet, welcome_word, add_word, seed_of, member_secret}
use Rattle.group_model.specs.KeyTerms.{message_key}
use Rattle.group_model.specs.Pairing.{Part, Draws, PairEvent, Sent, Opened, draws, opened}
use Rattle.group_model.specs.Packets.{Packet, Given, part_for}
use Rattle.group_model.specs.Logs.{LogEntry, Joined, Took, Made, header_of, Log}

-- the first of two that is there
abbrev pub or_else : Option Bytes → Option Bytes → Option Bytes
or_else None b = b
or_else (Some a) b = Some a

abbrev pub with_opened : Part → Option Content → List PairEvent → List PairEvent
with_opened part None es = es
with_opened part (Some content) es = Opened part content ∷ es

abbrev pub with_draws : Option Draws → List PairEvent → List PairEvent
with_draws None es = es
with_draws (Some d) es = Sent d ∷ es

-- what is known of the sender of rows alone: before its first message the empty ratchet
abbrev pub known_rows : History → Id → Option Bytes
known_rows [] s = Some empty_ratchet
known_rows (m ∷ rows) s = cond (bytes_eq m.sender s) None (known_rows rows s)

-- what was known before an entry: a welcome's rows are known as rows alone
abbrev pub prior_of : LogEntry → Option Bytes → Id → Option Bytes
prior_of (Joined p) k s = known_rows p.rows s
prior_of (Took p) k s = k
prior_of (Made p t) k s = k

abbrev pub prior_chain : LogEntry → Option Bytes → Option Bytes
prior_chain (Joined p) k = None
prior_chain (Took p) k = k
prior_chain (Made p t) k = k

-- the ratchet that a part of an add of this member, or of an add-ack, hands
abbrev pub handed_by_use : (self : Id) → KeyUse → (payload : Option Bytes) → Option Bytes
handed_by_use self SendsSeed o = None
handed_by_use self (AddsMember y) o = cond (bytes_eq y self) o None
handed_by_use self (TakesSecret i) o = None
handed_by_use self HandsRatchet o = o
handed_by_use self SpendsKey o = None
handed_by_use self LeavesKeys o = None

abbrev pub handed_by : (self : Id) → Kind → (payload : Option Bytes) → Option Bytes
handed_by self k o = handed_by_use self (key_use k) o

-- what a message has as its text: nothing where it is none
abbrev pub text_by_use : KeyUse → (text : Option Bytes) → Option Bytes
text_by_use SendsSeed o = None
text_by_use (AddsMember y) o = None
text_by_use (TakesSecret i) o = None
text_by_use HandsRatchet o = None
text_by_use SpendsKey o = o
text_by_use LeavesKeys o = None

abbrev pub text_by : Kind → (text : Option Bytes) → Option Bytes
text_by k o = text_by_use (key_use k) o

module _ (K : Primitives) where
  -- what a member sent to the peer in a packet of its own
  abbrev pub sent_part : (peer : Id) → Given → Option Part → List PairEvent → List PairEvent
  sent_part peer t None es = es
  sent_part peer t (Some part) es = with_draws (draws K t.random peer) es

  -- the input that the answer of s takes to an operation: by the operation's seed, or by its sender's ratchet before it
  abbrev pub answer_by_use : KeyUse → (s : Id) → (seed before : Option Bytes) → Option Bytes
  answer_by_use SendsSeed s seed before = option_map (λ k. member_secret K k s) seed
  answer_by_use (AddsMember y) s seed before = option_map (λ r. K.out r welcome_word) before
  answer_by_use (TakesSecret i) s seed before = None
  answer_by_use HandsRatchet s seed before = None
  answer_by_use SpendsKey s seed before = None
  answer_by_use LeavesKeys s seed before = None

  -- and else what was forwarded
  abbrev pub answer_by : Kind → (s : Id) → (seed before forward : Option Bytes) → Option Bytes
  answer_by k s seed before forward = or_else (answer_by_use (key_use k) s seed before) forward

  -- how the message moves the ratchet of s
  abbrev pub motion_by_use : KeyUse → (s : Id) → (seed : Option Bytes) → (answer : Id → Option Bytes)
      → Option (Motion Bytes)
  motion_by_use SendsSeed s seed answer = option_map (λ k. Once (member_secret K k s)) seed
  motion_by_use (AddsMember y) s seed answer = Some Twice
  motion_by_use (TakesSecret i) s seed answer = option_map (λ k. Once k) (answer i)
  motion_by_use HandsRatchet s seed answer = Some (Once add_word)
  motion_by_use SpendsKey s seed answer = Some Stays
  motion_by_use LeavesKeys s seed answer = Some Stays

  abbrev pub motion_known : Kind → (s : Id) → (seed : Option Bytes) → (answer : Id → Option Bytes)
      → Option (Motion Bytes)
  motion_known k s seed answer = motion_by_use (key_use k) s seed answer

  -- a text's sealed bytes, from its sender's text chain before it, and what they open to
  abbrev pub text_sealed : Option Bytes → (text : Bytes) → Option Bytes
  text_sealed chain text = option_map (λ k. K.seal (message_key K k) text) chain

  abbrev pub text_opened : Option Bytes → (sealed : Bytes) → Option Bytes
  text_opened chain sealed = option_and_then (λ k. K.unseal (message_key K k) sealed) chain

module _ (K : Primitives) (card : KeyPair) where
  -- what was heard from a peer by a part of it
  abbrev pub heard_part : Option Part → List PairEvent → List PairEvent
  heard_part None es = es
  heard_part (Some part) es = with_opened part (opened K card es part) es

  -- what a part opens to
  abbrev pub payload_in : List PairEvent → Option Part → Option Bytes
  payload_in es None = None
  payload_in es (Some part) = option_map (λ (o : Content). o.payload) (opened K card es part)

module _ (K : Primitives) (card : KeyPair) (self : Id) where
  -- what self heard from the peer in a packet
  abbrev pub heard : (peer : Id) → Packet → List PairEvent → List PairEvent
  heard peer p es = cond (bytes_eq p.header.sender peer) (heard_part K card (part_for p.parts self) es) es

  -- what self sent to the peer and opened from it
  unfoldable pub events : (peer : Id) → Log → List PairEvent
  events peer [] = []
  events peer (Joined p ∷ l) = heard peer p (events peer l)
  events peer (Took p ∷ l) = heard peer p (events peer l)
  events peer (Made p t ∷ l) = sent_part K peer t (part_for p.parts peer) (events peer l)

  -- what the packet's part to self opens to
  abbrev pub payload : Log → Packet → Option Bytes
  payload l p = payload_in K card (events p.header.sender l) (part_for p.parts self)

  -- the ratchet of the message's sender before the message
  abbrev pub ratchet_before : LogEntry → Log → Option Bytes → Option Bytes
  ratchet_before (Joined p) l prior = or_else (handed_by self p.header.kind (payload l p)) prior
  ratchet_before (Took p) l prior = or_else (handed_by self p.header.kind (payload l p)) prior
  ratchet_before (Made p t) l prior = prior

  -- the seed of a seeded operation, which was drawn or opened
  abbrev pub seed_known : LogEntry → Log → Option Bytes
  seed_known (Joined p) l = None
  seed_known (Took p) l = payload l p
  seed_known (Made p t) l = Some (seed_of K t.random)

  -- the member secret that an ack's part forwards
  abbrev pub forwarded : LogEntry → Log → Option Bytes
  forwarded (Joined p) l = None
  forwarded (Took p) l = payload l p
  forwarded (Made p t) l = None

  unfoldable mutual
    -- what self knows of the ratchet of s after the last message of s
    pub known : Log → Id → Option Bytes
    known [] s = Some empty_ratchet
    known (e ∷ l) s =
        cond (bytes_eq (header_of e).sender s)
        (turned_known K
        (motion_known K (header_of e).kind s (seed_known e l) (λ i. answer_known l i s (forwarded e l)))
        (ratchet_before e l (prior_of e (known l s) s)))
        (prior_of e (known l s) s)

    -- the input of the answer of s to the operation i
    pub answer_known : Log → (i s : Id) → (forward : Option Bytes) → Option Bytes
    answer_known [] i s forward = forward
    answer_known (e ∷ l) i s forward =
        cond (bytes_eq (header_of e).id i)
        (answer_by K (header_of e).kind s (seed_known e l)
        (ratchet_before e l (prior_of e (known l (header_of e).sender) (header_of e).sender)) forward)
        (answer_known l i s forward)

  -- what self knows of the ratchet of the message's sender after the message
  unfoldable pub known_of : Log → Message → Option Bytes
  known_of [] m = None
  known_of (e ∷ l) m = cond (bytes_eq (header_of e).id m.id) (known (e ∷ l) m.sender) (known_of l m)

  -- the update secret that self learns of the message in the step that takes or makes it
  abbrev pub learnt_at : LogEntry → Log → Option Bytes
  learnt_at e l = secret_known K
      (motion_known K (header_of e).kind (header_of e).sender (seed_known e l)
      (λ i. answer_known l i (header_of e).sender (forwarded e l)))
      (ratchet_before e l (prior_of e (known l (header_of e).sender) (header_of e).sender))

  unfoldable pub learnt_of : Log → Message → Option Bytes
  learnt_of [] m = None
  learnt_of (e ∷ l) m = cond (bytes_eq (header_of e).id m.id) (learnt_at e l) (learnt_of l m)

  -- what self knows of the text chain of s after the last message of s
  unfoldable pub chain_known : Log → Id → Option Bytes
  chain_known [] s = None
  chain_known (e ∷ l) s = cond (bytes_eq (header_of e).sender s)
      (chain_after K (header_of e).kind (learnt_at e l) (prior_chain e (chain_known l s)))
      (prior_chain e (chain_known l s))

  -- the bytes of a text that self sent or opened; of a welcome's rows none, and of a message that is no text none
  abbrev pub text_at : LogEntry → Log → Option Bytes
  text_at (Joined p) l = None
  text_at (Took p) l = text_by p.header.kind (text_opened K (chain_known l p.header.sender) p.sealed)
  text_at (Made p t) l = text_by p.header.kind (Some t.text)

  unfoldable pub text_of : Log → Message → Option Bytes
  text_of [] m = None
  text_of (e ∷ l) m = cond (bytes_eq (header_of e).id m.id) (text_at e l) (text_of l m)
