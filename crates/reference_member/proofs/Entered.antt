-- A member that took a packet, and what is kept of it, with its answer or without.
use Rattle.std.proofs.Common.{◌≡◌, ◌≢◌, ◌⊎◌, List, [], ◌∷◌, ◌++◌, Option, Some, None, refl, sym, ◌∙◌, ap, subst, inl, inr}
use Rattle.kem_trait.specs.declared.kem.Kem.{Ghosts}
use Rattle.group_fields.specs.declared.card.Card.{Card}
use Rattle.group_model.specs.Sets.{Bytes, Id, In}
use Rattle.group_model.specs.Messages.{Kind, Create, Update, Remove, Add, Ack, AddAck, Text, Message, History, Stands}
use Rattle.group_model.specs.Membership.{IsMembershipRule}
use Rattle.group_model.specs.Validity.{IsOperation, NeedsAnswer}
use Rattle.group_model.specs.Packets.{Given}
use Rattle.group_model.specs.Settings.{Owner}
use Rattle.group_model.specs.Logs.{LogEntry}
use Rattle.group_model.specs.LawfulLogs.{IsLawfulLog, MayEnter}
use Rattle.group_model.specs.Conduct.{Follows, asks, waiting}
use Rattle.group_keys.specs.Primitives.{primitives_of}
use Rattle.group_messages.specs.Messages.{message_of}
use Rattle.causal_history.specs.Rows.{Row, cards_of, history_of}
use Rattle.causal_history.proofs.RowFacts.{history-none}
use Rattle.wire_codec.specs.Packets.{Packet as ReadPacket}
use Rattle.reference_member.specs.Members.{IsOwner, Member, known, own_id, own_pair}
use Rattle.reference_member.specs.Messages.{IsNext, MadeMessage, answer_kind}
use Rattle.reference_member.specs.Refusals.{IsOut}
use Rattle.reference_member.specs.Accepted.{part_opens, with_made}
use Rattle.reference_member.proofs.Answering.{TakesSecret, WasSeen, answer-enters, answer-named, answer-target}
use Rattle.reference_member.proofs.Commands.{next-history}
use Rattle.reference_member.proofs.Deciding.{operation-or-not}
use Rattle.reference_member.proofs.Makes.{owner}
use Rattle.reference_member.proofs.OwnerForms.{Encapsulates, SaysOf, owner-form}
use Rattle.reference_member.proofs.States.{Base, Conducts, Enters, Sound, base-made, conducts-made, owner-made, owns, owns-made}

-- the member with other rows and one entry more
abbrev pub with_entry : List Row → LogEntry → Member → Member
with_entry rows e M = record M { rows = rows; log = e ∷ M.log }

asks-none : (k : Kind) (i : Id) → (IsOperation k → ⊥) → asks k i ≡ None
asks-none (Create members) i n = absurd (n tt)
asks-none Update i n = absurd (n tt)
asks-none (Remove y) i n = absurd (n tt)
asks-none (Add y) i n = absurd (n tt)
asks-none (Ack o took) i n = refl
asks-none (AddAck o) i n = refl
asks-none Text i n = refl

asks-some : (k : Kind) (i : Id) → IsOperation k → asks k i ≡ Some i
asks-some (Create members) i op = refl
asks-some Update i op = refl
asks-some (Remove y) i op = refl
asks-some (Add y) i op = refl
asks-some (Ack o took) i op = absurd op
asks-some (AddAck o) i op = absurd op
asks-some Text i op = absurd op

module _ {K P : Type 0} (kem : Ghosts K P) (rule : History → List Id) (M : Member) (packet : ReadPacket) (rows : List Row)
    (e : LogEntry) (older : History) where
  abbrev m : Message
  m = message_of packet.header

  abbrev after : Member
  after = with_entry rows e M

  -- the entry may be the owner's next, and waits for an answer where the message asks for one
  pub record Entered (O : Owner) : Type 0 where
    pub may : MayEnter O M.log e
    pub turn : Follows (waiting M.log) e
    pub waits : waiting (e ∷ M.log) ≡ asks m.kind m.id
    pub other : m.sender ≢ own_id kem M
    pub new : Stands older m.id → ⊥
    pub takes : TakesSecret kem rule after m older (part_opens kem packet M)
    pub seen : WasSeen kem rule after m older (part_opens kem packet M)

  -- what comes of a packet
  pub record Takings : Type 0 where
    pub base : Base kem rule after
    pub is : known after ≡ m ∷ older
    pub more : (card : Card) → In card (cards_of M.rows) → In card (cards_of rows)
    pub entered : (inviter : Id → Option Id) (public_key : Id → Bytes) (is_rule : IsMembershipRule rule)
        (encapsulates : Encapsulates (primitives_of kem) inviter public_key) → SaysOf kem inviter public_key (cards_of rows)
        → Conducts kem rule M (owner kem rule M inviter public_key is_rule encapsulates)
        → Entered (owner kem rule M inviter public_key is_rule encapsulates)

  module _ (sound : Sound kem rule M) (takings : Takings) where
    pub before : (O : Owner) → IsOwner kem rule after O → IsOwner kem rule M O
    before O is = record {
      primitives = is.primitives;
      rule_is = is.rule_is;
      id = is.id;
      card = is.card;
      inviters = λ card i. is.inviters card (takings.more card i);
      keys = λ card i. is.keys card (takings.more card i);
    }

    pub by-owner : (O : Owner) → IsOwner kem rule after O → Entered O
    by-owner O is =
        let o = owns kem rule after O is in
        owner-form (primitives_of kem) rule (own_id kem M) (own_pair kem M)
        (λ (o : Owner). SaysOf kem o.inviter o.public_key (cards_of rows) → Conducts kem rule M o → Entered o)
        takings.entered O o.primitives o.rule_is o.id o.card o.says (sound.conducts O (before O is))

    some-rows : rows ≢ []
    some-rows none = absurd (let f : m ∷ older ≡ [] = sym takings.is ∙ ap history_of none ∙ history-none in cc)

    settle : (O : Owner) → Entered O → (NeedsAnswer rule (own_id kem M) older m → ⊥)
        → (waiting (e ∷ M.log) ≡ None) ⊎ IsOut kem rule after
    settle O x none = elim (operation-or-not m.kind) [
      | inr n ↦ inl (x.waits ∙ asks-none m.kind m.id n)
      | inl op ↦ inr (record {
        joined = some-rows;
        out = λ i. none (record {
          operation = op;
          others = x.other;
          member = subst (λ h. In (own_id kem M) (rule h)) takings.is i;
        });
      })
    ]

    -- nothing is answered
    pub sound-taken : (NeedsAnswer rule (own_id kem M) older m → ⊥) → Sound kem rule after
    sound-taken none = record {
      base = takings.base;
      conducts = λ O is.
          let x = by-owner O is in
          let c = sound.conducts O (before O is) in
          record { lawful = (x.may, c.lawful); at_once = (x.turn, c.at_once); settled = settle O x none };
    }

    -- it is answered
    pub sound-answered : (t : Given) (answer : MadeMessage) → NeedsAnswer rule (own_id kem M) older m
        → IsNext kem rule after t [] (answer_kind (own_id kem M) m.kind)
        (answer-target m (answer_kind (own_id kem M) m.kind) (part_opens kem packet M)) answer
        → Sound kem rule (with_made kem t answer after)
    sound-answered t answer needs next = record {
      base = base-made kem rule after t answer takings.base
          (next-history kem rule after t [] (answer_kind (own_id kem M) m.kind)
          (answer-target m (answer_kind (own_id kem M) m.kind) (part_opens kem packet M)) answer next takings.base.history)
          (answer-named kem rule after m older (part_opens kem packet M) t answer next);
      conducts = λ O is.
          let o = owns-made kem rule after t answer O is in
          let own = owner-made kem rule after t answer O is in
          let x = by-owner O own in
          let c = sound.conducts O (before O own) in
          conducts-made kem rule after t answer O (x.may, c.lawful) (x.turn, c.at_once)
          (owner-form (primitives_of kem) rule (own_id kem M) (own_pair kem M)
          (λ (o : Owner). SaysOf kem o.inviter o.public_key (cards_of rows ++ answer.carried.cards)
          → IsLawfulLog o (e ∷ M.log) → Enters kem rule after o t answer)
          (λ inviter public_key is_rule encapsulates says lawful.
          answer-enters kem rule after m older (part_opens kem packet M) t answer next inviter public_key is_rule encapsulates
          takings.base.agrees takings.base.named takings.is x.new lawful (x.turn, c.at_once)
          (x.waits ∙ asks-some m.kind m.id needs.operation) x.takes x.seen needs says)
          O o.primitives o.rule_is o.id o.card o.says (x.may, c.lawful));
    }
