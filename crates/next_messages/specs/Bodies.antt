-- The body of the message that a member makes next, as its book makes it. docs/GROUP.md, "The reference member".
use Rattle.std.specs.Prelude.{◌≡◌, ℕ, ◌<◌, Bool, true, List, [], ◌∷◌, ◌++◌, Some, None, length, map}
use Rattle.kem_trait.specs.declared.kem.Kem.{Ghosts}
use Rattle.group_fields.specs.Cards.{card_id}
use Rattle.group_fields.specs.Layouts.{Spells}
use Rattle.group_fields.specs.declared.card.Card.{Card}
use Rattle.group_fields.specs.declared.header.Header.{Header}
use Rattle.group_fields.specs.declared.header.Kind.{Kind as HeaderKind}
use Rattle.group_fields.specs.declared.header.Kind.TheVariants as kinds
use Rattle.group_fields.specs.declared.header.Target.{Target}
use Rattle.group_fields.specs.declared.header.Target.TheVariants as targets
use Rattle.group_model.specs.Sets.{Bytes, Id, In}
use Rattle.group_model.specs.Messages.{History}
use Rattle.group_model.specs.KeyTerms.{seed_of}
use Rattle.group_model.specs.Marks.{IsPlace}
use Rattle.group_model.specs.Packets.{Given}
use Rattle.group_model.specs.Pairing.{draws}
use Rattle.group_model.specs.Parts.{part_sent, parts_of}
use Rattle.group_model.specs.Primitives.{Primitives}
use Rattle.group_model.specs.Settings.{Owner}
use Rattle.group_keys.specs.Primitives.{primitives_of}
use Rattle.group_messages.specs.Messages.{kind_of}
use Rattle.group_packets.specs.Packets.{addressed_of, part_written}
use Rattle.causal_history.specs.Rows.{Row, cards_of}
use Rattle.wire_codec.specs.Packets as packets
use Rattle.wire_codec.specs.Packets.{Body, id_of}
use Rattle.member_book.specs.Books.{BookState}
use Rattle.member_book.specs.Standing.{BookStands}
use Rattle.two_party.specs.Drawn.{Drawn}
use Rattle.secret_book.specs.HeldBooks.{HeldBook}
use Rattle.body_parts.specs.Receivers.{ids_to}
use Rattle.body_parts.specs.Sending.{AreDrawnFrom}
use Rattle.group_ops.specs.Making.{IsSeededBody}
use Rattle.add_ops.specs.Making.{IsAddBody}
use Rattle.reference_member.specs.Members.{Member, own_id, own_pair, public_key_by}
use Rattle.reference_member.specs.Messages.{CarriesText, HandsOn}

module _ {K P : Type 0} (kem : Ghosts K P) (M : Member) where
  -- The book is the member's: its owner is the member, has the keys that these cards have, and it stands for the log.
  pub record IsBookOf (cards : List Card) (O : Owner) (state : BookState) : Type 0 where
    pub primitives : O.primitives ≡ primitives_of kem
    pub id : O.id ≡ own_id kem M
    pub card : O.card ≡ own_pair kem M
    pub keys : (card : Card) → In card cards → O.public_key (card_id card) ≡ card.kem_public
    pub stands : BookStands O M.log state

module _ {K P : Type 0} (kem : Ghosts K P) (rule : History → List Id) (M : Member) (t : Given) where
  -- what the reference member asks of what its next message carries
  pub record HasNextBody (cards : List Card) (header : Header) (addressees : List Id) (carried : Body) (body : Bytes)
      : Type 0 where
    pub spelled : Spells (packets.body kem.SET header.kind header.target) body carried
    pub cards_are : carried.cards ≡ cards
    pub parts : parts_of (part_sent (primitives_of kem) (own_pair kem M) (own_id kem M)
        (public_key_by (cards_of M.rows ++ cards)) M.log t (kind_of header)) addressees
        ≡ Some (map (addressed_of kem) carried.parts)
    -- spelled by its bytes
    pub written : map (part_written kem) (map (addressed_of kem) carried.parts) ≡ carried.parts
    pub handed_on : HandsOn kem rule M t (kind_of header) carried.history
    pub text : CarriesText kem rule M t (kind_of header) carried.text

-- A message of the kind and target sends a seed, and carries these cards: those of a create's members.
abbrev pub SendsSeed : HeaderKind → Target → List Card → Type 0
SendsSeed kinds.Create target cards = (target ≡ targets.Members (map id_of cards)) × (0 < length cards)
SendsSeed kinds.Update target cards = cards ≡ []
SendsSeed kinds.Remove target cards = cards ≡ []
SendsSeed kinds.Add target cards = ⊥
SendsSeed kinds.Ack target cards = ⊥
SendsSeed kinds.AddAck target cards = ⊥
SendsSeed kinds.Text target cards = ⊥

module _ {K P : Type 0} (kem : Ghosts K P) where
  -- Bytes are the body of a create, an update or a remove with the seed of a step's random bytes, and with draws from
  -- these.
  pub record IsSeededNext (ids : List Id) (cards : List Card) (bits : ℕ → Bool) (random : Bytes)
      (before after : HeldBook) (bytes : Bytes) : Type 0 where
    pub drawn : List Drawn
    pub made : IsSeededBody kem ids cards bits (seed_of (primitives_of kem) random) drawn before after bytes
    pub drawn_from : AreDrawnFrom (primitives_of kem) random drawn (ids_to made.to)

-- For one of the members of the crowd the random bytes give no usable key.
pub record LacksDraws (K : Primitives) (ids : List Id) (bits : ℕ → Bool) (random : Bytes) : Type 0 where
  pub place : ℕ
  pub id : Id
  pub is : IsPlace ids place id
  pub among : bits place ≡ true
  pub none : draws K random id ≡ None

-- how many parts an answer has at most
abbrev pub GivesParts : HeaderKind → (greatest : ℕ) → Type 0
GivesParts kinds.Create greatest = ⊥
GivesParts kinds.Update greatest = ⊥
GivesParts kinds.Remove greatest = ⊥
GivesParts kinds.Add greatest = ⊥
GivesParts kinds.Ack greatest = greatest ≡ 31
GivesParts kinds.AddAck greatest = greatest ≡ 1
GivesParts kinds.Text greatest = ⊥

module _ {K P : Type 0} (kem : Ghosts K P) where
  -- Bytes are the body of an add with the sender's ratchet, and with draws from a step's random bytes.
  pub record IsAddNext (rows : List Row) (card : Card) (ratchet random : Bytes) (before after : HeldBook)
      (bytes : Bytes) : Type 0 where
    pub drawn : List Drawn
    pub made : IsAddBody kem rows card ratchet drawn before after bytes
    pub drawn_from : AreDrawnFrom (primitives_of kem) random drawn (card_id card ∷ [])
