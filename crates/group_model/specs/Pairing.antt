-- Two-party messaging of a pair of members, by the list of what one of them sent to the other and
-- opened from the other, newest first.
-- The DCGKA paper's two-party secure messaging, 2SM;
-- docs/GROUP.md, "Two-party messaging".
use Rattle.std.specs.Prelude.{◌≡◌, ℕ, ◌+◌, ◌<◌, Bool, true, false, cond, List, [], ◌∷◌, ◌++◌, Option, Some, None}
use Rattle.std.specs.Prelude.{nat_lt, nat_eq, option_map, codes}
use Rattle.std.specs.Option.{option_and_then}
use Rattle.group_model.specs.Sets.{Bytes, Id, In}
use Rattle.group_model.specs.Primitives.{KeyPair, Encapsulation, Content, Primitives}

-- a part: which key it was sealed to (made by its sender for the receiver, or by the receiver itself,
-- and its number), the ciphertext, and the sealed content
pub record Part : Type 0 where
  pub made_by_sender : Bool
  pub number : ℕ
  pub ciphertext : Bytes
  pub sealed : Bytes

-- what one send draws: the sender's new pair, the receiver's, and the seed of the encapsulation
pub record Draws : Type 0 where
  pub own : KeyPair
  pub other : KeyPair
  pub encapsulation : Bytes

pub data PairEvent : Type 0 where
  Sent : (draws : Draws) → PairEvent
  Opened : (part : Part) → (content : Content) → PairEvent

-- how many parts were sent
abbrev pub sends : List PairEvent → ℕ
sends [] = 0
sends (Sent d ∷ es) = sends es + 1
sends (Opened part content ∷ es) = sends es

-- own secret key i: number 0 is the card's, number n was made in send n
unfoldable pub own_key : (card : KeyPair) → List PairEvent → ℕ → Option Bytes
own_key card [] i = cond (nat_eq i 0) (Some card.secret) None
own_key card (Sent d ∷ es) i = cond (nat_eq i (sends es + 1)) (Some d.own.secret) (own_key card es i)
own_key card (Opened part content ∷ es) i = own_key card es i

-- own keys up to the one that opened a part are dropped
unfoldable pub drop_by : (made_by_sender : Bool) → (number : ℕ) → ℕ → ℕ
drop_by true number below = below
drop_by false number below = cond (nat_lt below (number + 1)) (number + 1) below

-- own keys below this number are dropped
abbrev pub dropped : List PairEvent → ℕ
dropped [] = 0
dropped (Sent d ∷ es) = dropped es
dropped (Opened part content ∷ es) = drop_by part.made_by_sender part.number (dropped es)

-- the content of the last opened part
abbrev pub last_opened : List PairEvent → Option Content
last_opened [] = None
last_opened (Sent d ∷ es) = last_opened es
last_opened (Opened part content ∷ es) = Some content

-- the secret key that the last opened part brought, where that part has the number
abbrev pub secret_if : Option Content → ℕ → Option Bytes
secret_if None n = None
secret_if (Some o) n = cond (nat_eq o.number n) (Some o.secret) None

-- the kept key of an origin and a number
abbrev pub key_at : (own : ℕ → Option Bytes) → (below : ℕ) → (last : Option Content) → Bool → ℕ → Option Bytes
key_at own below last true n = secret_if last n
key_at own below last false n = cond (nat_lt n below) None (own n)

-- the key by which a part would open
abbrev pub key_of : (card : KeyPair) → List PairEvent → Part → Option Bytes
key_of card es part = key_at (own_key card es) (dropped es) (last_opened es) part.made_by_sender part.number

-- An own key is kept: it was made, and no part was opened by it or by a later own key
pub record IsOwnKept (card : KeyPair) (es : List PairEvent) (n : ℕ) (secret : Bytes) : Type 0 where
  pub made : own_key card es n ≡ Some secret
  pub undropped : (part : Part) (content : Content) → In (Opened part content) es → part.made_by_sender ≡ false
      → part.number < n

-- A key that a sender made for its receiver is kept: the last opened part brought it, and has the number
pub record IsBroughtLast (es : List PairEvent) (n : ℕ) (secret : Bytes) : Type 0 where
  pub content : Content
  pub last : last_opened es ≡ Some content
  pub number : content.number ≡ n
  pub brings : content.secret ≡ secret

-- the secret key of an origin and a number is kept
abbrev pub IsKept : (card : KeyPair) → List PairEvent → (made_by_sender : Bool) → ℕ → (secret : Bytes) → Type 0
IsKept card es true n secret = IsBroughtLast es n secret
IsKept card es false n secret = IsOwnKept card es n secret

-- the key that the next part is sealed to: the newest one that is known of the other side
pub record Target : Type 0 where
  pub made_by_sender : Bool
  pub number : ℕ
  pub public : Bytes

abbrev pub target : (theirs : Bytes) → List PairEvent → Target
target theirs [] = record { made_by_sender = false; number = 0; public = theirs }
target theirs (Sent d ∷ es) = record { made_by_sender = true; number = sends es + 1; public = d.other.public }
target theirs (Opened part content ∷ es) =
    record { made_by_sender = false; number = content.number; public = content.public }

-- the content of the next part
abbrev pub content_of : List PairEvent → Draws → (payload : Bytes) → Content
content_of es d payload = record {
  payload = payload;
  secret = d.other.secret;
  number = sends es + 1;
  public = d.own.public;
}

-- a part under way, with what it holds
pub record Sending : Type 0 where
  pub part : Part
  pub content : Content

module _ (K : Primitives) where
  -- the draws for y, from a step's random bytes
  unfoldable pub draws : (random : Bytes) → Id → Option Draws
  draws random y =
      option_and_then (λ (own : KeyPair). option_map (λ (other : KeyPair).
      record { own = own; other = other; encapsulation = K.derive random (codes "encap") y })
      (K.make (K.derive random (codes "other") y))) (K.make (K.derive random (codes "own") y))

  -- what an encapsulation and the content's bytes make of a target
  abbrev pub sealed_part : Target → Option Encapsulation → Option Bytes → Option Part
  sealed_part to None written = None
  sealed_part to (Some e) None = None
  sealed_part to (Some e) (Some bytes) = Some (record {
    made_by_sender = to.made_by_sender;
    number = to.number;
    ciphertext = e.ciphertext;
    sealed = K.seal e.key bytes;
  })

  -- the next part to who has this public key on the card
  abbrev pub part_to : (theirs : Bytes) → List PairEvent → Draws → (payload : Bytes) → Option Part
  part_to theirs es d payload =
      sealed_part (target theirs es) (K.encapsulate (target theirs es).public d.encapsulation)
      (K.write (content_of es d payload))

  -- what a part opens to by a secret key
  abbrev pub opened_by : Option Bytes → Part → Option Content
  opened_by None part = None
  opened_by (Some secret) part =
      option_and_then K.read (option_and_then (λ key. K.unseal key part.sealed) (K.decapsulate secret part.ciphertext))

  -- what a part opens to
  abbrev pub opened : (card : KeyPair) → List PairEvent → Part → Option Content
  opened card es part = opened_by (key_of card es part) part

  -- The part opens to the content: its key is kept, the ciphertext gives a key under which its tag agrees, and the
  -- bytes read as the content, whose pair and keys the reading tests
  pub record OpensTo (card : KeyPair) (es : List PairEvent) (part : Part) (content : Content) : Type 0 where
    pub secret : Bytes
    pub kept : IsKept card es part.made_by_sender part.number secret
    pub key : Bytes
    pub decapsulates : K.decapsulate secret part.ciphertext ≡ Some key
    pub written : Bytes
    pub unseals : K.unseal key part.sealed ≡ Some written
    pub reads : K.read written ≡ Some content

  -- a pair is tested
  abbrev pub IsTested : KeyPair → Type 0
  IsTested pair = K.is_pair pair.secret pair.public ≡ true

  -- what one side sends next: from its events, with these draws and this payload, to who has this
  -- public key on the card
  pub record Sends (theirs : Bytes) (es : List PairEvent) (d : Draws) (payload : Bytes) (s : Sending) : Type 0 where
    pub own_tested : IsTested d.own
    pub other_tested : IsTested d.other
    pub part : part_to theirs es d payload ≡ Some s.part
    pub content : s.content ≡ content_of es d payload

  -- Two sides with tested pairs on their cards, each with its events, and the parts under way from the
  -- one and from the other, oldest first. Each takes the other's parts in the order sent.
  pub data Joint (a b : KeyPair) : List PairEvent → List PairEvent → List Sending → List Sending → Type 0 where
    start : IsTested a → IsTested b → Joint a b [] [] [] []
    a_sends : {ea eb : List PairEvent} {qa qb : List Sending} (d : Draws) (payload : Bytes) (s : Sending)
        → Sends b.public ea d payload s → Joint a b ea eb qa qb → Joint a b (Sent d ∷ ea) eb (qa ++ s ∷ []) qb
    b_sends : {ea eb : List PairEvent} {qa qb : List Sending} (d : Draws) (payload : Bytes) (s : Sending)
        → Sends a.public eb d payload s → Joint a b ea eb qa qb → Joint a b ea (Sent d ∷ eb) qa (qb ++ s ∷ [])
    b_takes : {ea eb : List PairEvent} {qa qb : List Sending} (s : Sending)
        → Joint a b ea eb (s ∷ qa) qb → Joint a b ea (Opened s.part s.content ∷ eb) qa qb
    a_takes : {ea eb : List PairEvent} {qa qb : List Sending} (s : Sending)
        → Joint a b ea eb qa (s ∷ qb) → Joint a b (Opened s.part s.content ∷ ea) eb qa qb
