-- Packets: their format.
use Rattle.std.proofs.Common.{◌≡◌, ◌⊎◌, ◌<◌, ◌≤◌, ◌+◌, ℕ, zero, suc, ◌==◌, if◌then◌else◌, Bool, true, List}
use Rattle.std.proofs.Common.{[], ◌∷◌, ◌++◌, length, replicate, Option, Some, None, bytes_eq, refl}
use Rattle.std.specs.Int.{w8, w16, w32, to_be_bytes}
use Rattle.sha2.specs.Sha256.{sha256}
use Rattle.group_fields.specs.Cards.{card_id, card_of_sets, key_size, least_lms_type}
use Rattle.group_fields.specs.Fields.{is_above, place_of}
use Rattle.group_fields.specs.Headers as headers
use Rattle.group_fields.specs.Layouts.{IsLeastFault, Layout, Shape, Spells, ◌>>=◌, bytes_of, checked, counted}
use Rattle.group_fields.specs.Layouts.{known, next_id, number, renamed, shaped, sized, value, verbatim}
use Rattle.group_fields.specs.declared.card.Card.{Card}
use Rattle.group_fields.specs.declared.fault.FieldFault.{FieldFault}
use Rattle.group_fields.specs.declared.header.Header.{Header}
use Rattle.group_fields.specs.declared.header.Kind.{Kind}
use Rattle.group_fields.specs.declared.header.Kind.TheVariants as kinds
use Rattle.group_fields.specs.declared.header.Target.{Target}
use Rattle.group_fields.specs.declared.header.Target.TheVariants as targets
use Rattle.group_fields.specs.declared.ids.Digest.{Digest}
use Rattle.group_fields.specs.declared.ids.MemberId.{MemberId}
use Rattle.wire_codec.specs.Repeated.{first_then, repeated}

-- a part, and the member that it is for
pub record AddressedPart : Type 0 where
  pub to : MemberId
  pub bytes : List ℕ

-- a sealed text and its tag
pub record Sealed : Type 0 where
  pub body : List ℕ
  pub tag : List ℕ

-- the history that an add hands on: the cards of those whom it names, and the headers of its messages
pub record WelcomeRows : Type 0 where
  pub cards : List Card
  pub rows : List Header

-- what a message carries beside its header
pub record Body : Type 0 where
  pub cards : List Card
  pub parts : List AddressedPart
  pub history : Option WelcomeRows
  pub text : Option Sealed

-- a message as it is handed on
pub record Packet : Type 0 where
  pub header : Header
  pub cards : List Card
  pub parts : List AddressedPart
  pub history : Option WelcomeRows
  pub text : Option Sealed
  pub signature : List ℕ

abbrev pub body_of : Packet → Body
body_of packet =
    record { cards = packet.cards; parts = packet.parts; history = packet.history; text = packet.text }

-- ---- parts

-- the bytes of a ciphertext of a set
abbrev pub ciphertext_size : ℕ → ℕ
ciphertext_size set = if set == 1 then 1039 else 58

-- the bytes of what is sealed in a part of a set, without its tag
abbrev pub sealed_size : ℕ → ℕ
sealed_size set = if set == 1 then 2957 else 164

-- the bytes of a part of a set
abbrev pub part_size : ℕ → ℕ
part_size set = 37 + (ciphertext_size set + sealed_size set)

-- a part of a set: origin, number of the key, ciphertext, sealed content, tag
unfoldable pub part : ℕ → Layout (List ℕ)
part set = verbatim (do
  origin ← number w8 0 1
  key_number ← bytes_of 4
  ciphertext ← bytes_of (ciphertext_size set)
  sealed ← bytes_of (sealed_size set)
  bytes_of 32)

-- an id above the one before it, and the part for that member
unfoldable pub addressed : ℕ → Option Digest → Layout AddressedPart
addressed set last = shaped (do
  id ← next_id last
  part set)
    (renamed (λ (id, bytes). record { to = record { 0 = id }; bytes = bytes }) (λ one. Some (one.to.0, one.bytes))
    (λ both. refl))

-- so many parts, each for a member with an id above the one before it
unfoldable pub parts_above : ℕ → ℕ → Option Digest → Layout (List AddressedPart)
parts_above set zero last = value []
parts_above set (suc count) last = first_then (addressed set last) (λ one. parts_above set count (Some one.to.0))

-- a count up to the greatest, and so many parts
abbrev pub parts : ℕ → ℕ → Layout (List AddressedPart)
parts set greatest = counted (number w8 0 greatest) (λ count. parts_above set count None)

-- ---- cards

-- the bytes of a card of a set
abbrev pub card_size : ℕ → ℕ
card_size set = 91 + key_size set

abbrev pub id_of : Card → Digest
id_of card = record { 0 = card_id card }

-- the card of a set whose id is this one, which is asked for once the card has no fault inside
unfoldable pub card_named : ℕ → Digest → Layout Card
card_named set id = checked (card_of_sets set set) (λ card. bytes_eq (card_id card) id.0)

-- the cards of a set with these ids, in their order
unfoldable pub cards_named : ℕ → List Digest → Layout (List Card)
cards_named set [] = value []
cards_named set (id ∷ ids) = first_then (card_named set id) (λ card. cards_named set ids)

-- a card of a set with an id above the one before it, which is asked for once the card has no fault inside
unfoldable pub card_above : ℕ → Option Digest → Layout Card
card_above set last = checked (card_of_sets set set) (λ card. is_above last (card_id card))

-- so many cards of a set, each with an id above the one before it
unfoldable pub cards_above : ℕ → ℕ → Option Digest → Layout (List Card)
cards_above set zero last = value []
cards_above set (suc count) last = first_then (card_above set last) (λ card. cards_above set count (Some (id_of card)))

-- at most 32 cards of a set, their number before them, each with an id above the one before it
abbrev pub counted_cards : ℕ → Layout (List Card)
counted_cards set = counted (number w8 0 32) (λ count. cards_above set count None)

-- ---- the history of an add

-- a header with its length before it; in a history it may be of any set and group
unfoldable pub row : Layout Header
row = sized (number w16 0 0xffff) (λ bytes. true) headers.header

-- at most 4,095 headers, their number before them
abbrev pub counted_rows : Layout (List Header)
counted_rows = counted (number w16 0 4095) (λ count. repeated count row)

-- cards of a set, and headers
unfoldable pub history : ℕ → Layout WelcomeRows
history set = shaped (do
  cards ← counted_cards set
  counted_rows)
    (renamed (λ (cards, rows). record { cards = cards; rows = rows }) (λ welcome. Some (welcome.cards, welcome.rows))
    (λ both. refl))

-- ---- bodies

-- parts alone
abbrev pub only_parts : Shape (List AddressedPart) Body
only_parts =
    renamed (λ parts. record { cards = []; parts = parts; history = None; text = None }) (λ body. Some body.parts)
    (λ parts. refl)

-- at most so many parts
unfoldable pub parts_body : ℕ → ℕ → Layout Body
parts_body set greatest = shaped (parts set greatest) only_parts

-- the cards of the members of a new group in the order of their ids, and parts
unfoldable pub create_body : ℕ → List Digest → Layout Body
create_body set ids = shaped (do
  cards ← cards_named set ids
  parts set 31)
    (renamed (λ (cards, parts). record { cards = cards; parts = parts; history = None; text = None })
    (λ body. Some (body.cards, body.parts)) (λ both. refl))

abbrev welcome_from : List Card → List AddressedPart → Option WelcomeRows → Option (Card × (List ℕ × WelcomeRows))
welcome_from (card ∷ []) (one ∷ []) (Some rows) = Some (card, (one.bytes, rows))
welcome_from _ _ _ = None

-- the card of the member that is added, the one part for it, and the history
unfoldable pub add_body : ℕ → MemberId → Layout Body
add_body set id = shaped (do
  card ← card_named set id.0
  bytes ← part set
  history set)
    (renamed
    (λ (card, (bytes, rows)).
    record { cards = card ∷ []; parts = record { to = id; bytes = bytes } ∷ []; history = Some rows; text = None })
    (λ body. welcome_from body.cards body.parts body.history) (λ fields. refl))

-- at most 4,096 bytes of a sealed text with their number before them, and the tag
unfoldable pub text : Layout Sealed
text = shaped (do
  body ← counted (number w16 0 4096) bytes_of
  bytes_of 32)
    (renamed (λ (body, tag). record { body = body; tag = tag }) (λ sealed. Some (sealed.body, sealed.tag))
    (λ both. refl))

-- a text alone
unfoldable pub text_body : Layout Body
text_body =
    shaped text
    (renamed (λ sealed. record { cards = []; parts = []; history = None; text = Some sealed }) (λ body. body.text)
    (λ sealed. refl))

-- the members of a new group: those of the target of a create
abbrev pub members_named : Target → List Digest
members_named (targets.Members ids) = ids
members_named targets.Nothing = []
members_named (targets.Member id) = []
members_named (targets.Answer id took) = []

-- nobody: an id of zero bytes
abbrev pub nobody : MemberId
nobody = record { 0 = record { 0 = replicate 32 0 } }

-- the member that is added: that of the target of an add
abbrev pub member_named : Target → MemberId
member_named (targets.Members ids) = nobody
member_named targets.Nothing = nobody
member_named (targets.Member id) = id
member_named (targets.Answer id took) = nobody

-- the body of a message of a set, kind and target
unfoldable pub body : ℕ → Kind → Target → Layout Body
body set kinds.Create target = create_body set (members_named target)
body set kinds.Update target = parts_body set 31
body set kinds.Remove target = parts_body set 31
body set kinds.Add target = add_body set (member_named target)
body set kinds.Ack target = parts_body set 31
body set kinds.AddAck target = parts_body set 1
body set kinds.Text target = text_body

-- ---- signatures

-- the bytes of a path in a tree of a type
abbrev pub path_size : ℕ → ℕ
path_size lms_type = if lms_type == 5 then 160 else 320

-- a signature of a set (RFC 8554, section 5.4): q, one-time type, C, y, LMS type, path
unfoldable pub signature : ℕ → Layout (List ℕ)
signature set = verbatim (do
  q ← bytes_of 4
  one_time_type ← known (0 ∷ 0 ∷ 0 ∷ 3 ∷ [])
  randomizer ← bytes_of 32
  chains ← bytes_of 2144
  lms_type ← number w32 (least_lms_type set) 6
  bytes_of (path_size lms_type))

-- ---- packets

abbrev pub magic : List ℕ
magic = 0x44 ∷ 0x43 ∷ 0x47 ∷ 0x50 ∷ []

-- the digest of a body is the header's
abbrev pub is_body_of : Header → List ℕ → Bool
is_body_of header bytes = bytes_eq (sha256 bytes) header.body.0

-- magic; header and body, each with its length before it; signature
unfoldable pub packet : Layout Packet
packet = shaped (do
  start ← known magic
  header ← row
  carried ← sized (number w32 0 0xffff_ffff) (is_body_of header) (body header.set header.kind header.target)
  signature header.set)
    (renamed
    (λ (start, (header, (carried, signature))).
    record {
      header = header;
      cards = carried.cards;
      parts = carried.parts;
      history = carried.history;
      text = carried.text;
      signature = signature;
    })
    (λ p. Some (tt, (p.header, (body_of p, p.signature)))) (λ fields. refl))

-- the most bytes that a packet has
abbrev pub greatest_size : ℕ
greatest_size = 8_388_608

-- Bytes are those of a packet.
pub record IsPacket (p : Packet) (bytes : List ℕ) : Type 0 where
  pub size : length bytes ≤ greatest_size
  pub spelled : Spells packet bytes p

-- The least place at which bytes are refused as a packet. Too many bytes are refused behind the last that a packet may
-- have, before all else.
abbrev pub IsMalformed : List ℕ → ℕ → Type 0
IsMalformed bytes place =
    ((greatest_size < length bytes) × (place ≡ greatest_size))
    ⊎ ((length bytes ≤ greatest_size)
    × ((fault : FieldFault) × IsLeastFault packet bytes fault × (place ≡ place_of fault)))

-- ---- what packets are joined of

-- magic, header and body behind their lengths, and signature
unfoldable pub joined : (header body signature : List ℕ) → List ℕ
joined header body signature =
    magic ++ (to_be_bytes w16 (length header) ++ (header ++ (to_be_bytes w32 (length body) ++ (body ++ signature))))

-- The bytes of a packet's header, of what it carries, and of its signature.
pub record AreOf (p : Packet) (head carried signed : List ℕ) : Type 0 where
  pub header : headers.Spells p.header head
  pub body : Spells (body p.header.set p.header.kind p.header.target) carried (body_of p)
  pub digest : p.header.body.0 ≡ sha256 carried
  pub signature : Spells (signature p.header.set) signed p.signature
