-- The message that a member makes next: its header and its body. docs/GROUP.md, "The reference member".
use Rattle.std.specs.Prelude.{◌≡◌, ◌+◌, ◌-◌, Bool, true, cond, List, [], ◌∷◌, ◌++◌, Option, Some, None, bytes_eq, codes}
use Rattle.std.specs.Prelude.{map, ◌↔◌}
use Rattle.std.specs.Option.{option_map_or}
use Rattle.kem_trait.specs.declared.kem.Kem.{Ghosts}
use Rattle.sha2.specs.Sha256.{sha256}
use Rattle.hkdf_seal.specs.Keys.{kdf}
use Rattle.lms_sign.specs.Signatures.{lms_signature}
use Rattle.group_fields.specs.Cards.{card_id}
use Rattle.group_fields.specs.Headers as headers
use Rattle.group_fields.specs.Layouts.{Spells}
use Rattle.group_fields.specs.declared.card.Card.{Card}
use Rattle.group_fields.specs.declared.header.Header.{Header}
use Rattle.group_fields.specs.declared.header.Kind.{Kind as HeaderKind}
use Rattle.group_fields.specs.declared.header.Kind.TheVariants as kinds
use Rattle.group_fields.specs.declared.header.Target.{Target}
use Rattle.group_fields.specs.declared.header.Target.TheVariants as targets
use Rattle.group_model.specs.Sets.{Bytes, Id, In, IsAscending}
use Rattle.group_model.specs.Messages.{Kind, Create, Update, Remove, Add, Ack, AddAck, Text, History, Stands}
use Rattle.group_model.specs.Messages.{AreHeads}
use Rattle.group_model.specs.Membership.{AreAddressees}
use Rattle.group_model.specs.Packets as model
use Rattle.group_model.specs.Packets.{Given}
use Rattle.group_model.specs.Knowledge.{chain_known, text_sealed}
use Rattle.group_model.specs.Parts.{parts_of, part_sent}
use Rattle.group_keys.specs.Primitives.{primitives_of}
use Rattle.group_messages.specs.Messages.{ids_of, kind_of, message_of}
use Rattle.group_packets.specs.Packets.{addressed_of, packet_of, part_written}
use Rattle.causal_history.specs.Rows.{cards_of}
use Rattle.wire_codec.specs.Packets as packets
use Rattle.wire_codec.specs.Packets.{Body, Packet as WrittenPacket, Sealed, WelcomeRows, id_of, joined}
use Rattle.causal_cast.specs.Judging.{group_of}
use Rattle.welcome_history.specs.Welcomes.{IsWelcomeOf}
use Rattle.reference_member.specs.Members.{Member, known, made_count, own_card, own_id, own_pair, public_key_by, tree}
use Rattle.reference_member.specs.Refusals.{member_id}
use Rattle.reference_member.specs.Steps as inputs
use Rattle.reference_member.specs.Steps.{Input}

-- A message that is made: its header, what it carries, and the bytes of that.
pub record MadeMessage : Type 0 where
  pub header : Header
  pub carried : Body
  pub body : Bytes

-- the cards of the members of a new group: the own card and these, ascending by their ids
pub record AreFounders (own : Card) (others cards : List Card) : Type 0 where
  pub ascending : IsAscending (map card_id cards)
  pub whose : (card : Card) → In card cards ↔ In card (own ∷ others)

module _ {K P : Type 0} (kem : Ghosts K P) (rule : History → List Id) (M : Member) (t : Given) where
  -- the group of the member's history, and else a new one, by the step's random bytes
  abbrev pub group_next : Id
  group_next = option_map_or (λ (group : Id). group) (group_of M.rows) (kdf t.random (codes "group") [])

  -- an add hands on the whole history
  abbrev pub HandsOn : Kind → Option WelcomeRows → Type 0
  HandsOn (Create members) handed_on = handed_on ≡ None
  HandsOn Update handed_on = handed_on ≡ None
  HandsOn (Remove y) handed_on = handed_on ≡ None
  HandsOn (Add y) handed_on = (welcome : WelcomeRows) × (handed_on ≡ Some welcome) × IsWelcomeOf M.rows welcome
  HandsOn (Ack o took) handed_on = handed_on ≡ None
  HandsOn (AddAck o) handed_on = handed_on ≡ None
  HandsOn Text handed_on = handed_on ≡ None

  -- the step's text, sealed with the next key of the member's text chain
  pub record IsSealedText (sealed : Sealed) : Type 0 where
    pub is : text_sealed (primitives_of kem)
        (chain_known (primitives_of kem) (own_pair kem M) (own_id kem M) M.log (own_id kem M)) t.text
        ≡ Some (sealed.body ++ sealed.tag)

  -- a text carries it
  abbrev pub CarriesText : Kind → Option Sealed → Type 0
  CarriesText (Create members) text = text ≡ None
  CarriesText Update text = text ≡ None
  CarriesText (Remove y) text = text ≡ None
  CarriesText (Add y) text = text ≡ None
  CarriesText (Ack o took) text = text ≡ None
  CarriesText (AddAck o) text = text ≡ None
  CarriesText Text text = (sealed : Sealed) × (text ≡ Some sealed) × IsSealedText sealed

  -- The message of this kind and target is the member's next, with these cards.
  pub record IsNext (cards : List Card) (kind : HeaderKind) (target : Target) (made : MadeMessage) : Type 0 where
    pub set : made.header.set ≡ kem.SET
    pub group : made.header.group.0.0 ≡ group_next
    pub sender : made.header.sender.0.0 ≡ own_id kem M
    pub seq : made.header.seq ≡ made_count kem M + 1
    pub kind_is : made.header.kind ≡ kind
    pub target_is : made.header.target ≡ target
    -- it goes on from all that the member has
    pub predecessors : AreHeads (known M) (ids_of made.header.predecessors)
    pub digest : made.header.body.0 ≡ sha256 made.body
    pub spelled : Spells (packets.body kem.SET kind target) made.body made.carried
    pub cards_are : made.carried.cards ≡ cards
    -- a part for each addressee, by the log and the step's random bytes
    pub addressees : List Id
    pub to_whom : AreAddressees rule (message_of made.header ∷ known M) (message_of made.header) addressees
    pub parts : parts_of (part_sent (primitives_of kem) (own_pair kem M) (own_id kem M)
        (public_key_by (cards_of M.rows ++ cards)) M.log t (kind_of made.header)) addressees
        ≡ Some (map (addressed_of kem) made.carried.parts)
    -- spelled by its bytes
    pub written : map (part_written kem) (map (addressed_of kem) made.carried.parts) ≡ made.carried.parts
    pub handed_on : HandsOn (kind_of made.header) made.carried.history
    pub text : CarriesText (kind_of made.header) made.carried.text
    -- no message before has its id
    pub new : Stands (known M) (message_of made.header).id → ⊥

  -- the message that a command makes
  abbrev pub IsByCommand : Input → MadeMessage → Type 0
  IsByCommand (inputs.Init inviter height) made = ⊥
  IsByCommand (inputs.Create others) made =
      (cards : List Card) × AreFounders (own_card kem M) others cards
      × IsNext cards kinds.Create (targets.Members (map id_of cards)) made
  IsByCommand (inputs.Add card) made =
      IsNext (card ∷ []) kinds.Add (targets.Member (member_id (card_id card))) made
  IsByCommand (inputs.Remove target) made = IsNext [] kinds.Remove (targets.Member (member_id target)) made
  IsByCommand inputs.Update made = IsNext [] kinds.Update targets.Nothing made
  IsByCommand (inputs.Send text) made = IsNext [] kinds.Text targets.Nothing made
  IsByCommand (inputs.Take packet) made = ⊥

-- how a member answers a message of another: with an add-ack the add of somebody else, with an ack anything else
abbrev pub answer_kind : (me : Id) → Kind → HeaderKind
answer_kind me (Create members) = kinds.Ack
answer_kind me Update = kinds.Ack
answer_kind me (Remove y) = kinds.Ack
answer_kind me (Add y) = cond (bytes_eq y me) kinds.Ack kinds.AddAck
answer_kind me (Ack o took) = kinds.Ack
answer_kind me (AddAck o) = kinds.Ack
answer_kind me Text = kinds.Ack

-- an add-ack says always that it took
abbrev pub answer_took : HeaderKind → Bool → Bool
answer_took kinds.AddAck took = true
answer_took _ took = took

module _ {K P : Type 0} (kem : Ghosts K P) (M : Member) where
  -- the packet of the model that a message is
  abbrev pub as_packet : MadeMessage → model.Packet
  as_packet made = packet_of kem (record {
    header = made.header;
    cards = made.carried.cards;
    parts = made.carried.parts;
    history = made.carried.history;
    text = made.carried.text;
    signature = [];
  })

  -- the bytes of its packet: its header, its body, and the signature of its id by the leaf of its number
  abbrev pub packet_bytes : MadeMessage → Bytes
  packet_bytes made = joined (headers.spelling made.header) made.body
      (lms_signature (tree M) (made.header.seq - 1) (message_of made.header).id)
