-- A packet that is ready may be taken by the member's log.
use Rattle.std.proofs.Common.{◌≡◌, ◌≢◌, ◌⊎◌, true, List, [], ◌∷◌, ◌++◌, Option, Some, None, IsSome, refl, sym, ◌∙◌, ap, subst, inl, inr}
use Rattle.std.specs.Prelude.{is_some}
use Rattle.kem_trait.specs.declared.kem.Kem.{Ghosts}
use Rattle.group_fields.specs.declared.card.Card.{Card}
use Rattle.group_model.specs.Sets.{Bytes, Id, In, here}
use Rattle.group_model.specs.Messages.{Kind, Create, Update, Remove, Add, Ack, AddAck, Text, Message, History, IsHistory, Stands}
use Rattle.group_model.specs.Membership.{InView, IsAddressee, IsMembershipRule, IsRecipient, IsSeeded, Names, named_by}
use Rattle.group_model.specs.Validity.{Opens, SendsParts}
use Rattle.group_model.specs.Primitives.{KeyPair, Primitives}
use Rattle.group_model.specs.KeyTerms.{member_secret, welcome_word}
use Rattle.group_model.specs.Pairing.{PairEvent, Part}
use Rattle.group_model.specs.Packets.{Packet, part_for}
use Rattle.group_model.specs.Settings.{Owner}
use Rattle.group_model.specs.Logs.{Log, Took, hist}
use Rattle.group_model.specs.LawfulLogs.{TakesPacket}
use Rattle.group_model.specs.Knowledge.{answer_by, answer_known, events, handed_by, known as ratchet_known, or_else, payload, payload_in, prior_of}
use Rattle.group_model.specs.Conduct.{Follows, waiting}
use Rattle.group_model.proofs.ListFacts.{In-nothing, equal_id}
use Rattle.group_model.proofs.LogLaws.{log_kept}
use Rattle.group_model.proofs.Knowing.{answer-own}
use Rattle.group_keys.specs.Primitives.{primitives_of}
use Rattle.group_messages.specs.Messages.{message_of}
use Rattle.group_packets.specs.Packets.{packet_of}
use Rattle.causal_history.specs.Rows.{Row, cards_of}
use Rattle.causal_history.proofs.RowFacts.{history-push}
use Rattle.member_view.specs.Causes.{IsFirst}
use Rattle.wire_codec.specs.Packets.{IsPacket, Packet as ReadPacket}
use Rattle.causal_cast.specs.Judging.{inviter_by, receivers}
use Rattle.causal_cast.specs.Verdicts.{verdicts}
use Rattle.causal_cast.specs.declared.verdict.Verdict.TheVariants as answers
use Rattle.causal_cast.proofs.ReadyFacts.{ready-may_be_taken, taken-lawful}
use Rattle.causal_cast.proofs.Taking.{part-due}
use Rattle.reference_member.specs.Members.{Member, judging, known, own_id, own_pair}
use Rattle.reference_member.specs.Accepted.{row_of_packet}
use Rattle.reference_member.proofs.Entered.{Entered, Takings, with_entry}
use Rattle.reference_member.proofs.Makes.{owner}
use Rattle.reference_member.proofs.OwnerForms.{Encapsulates, SaysOf, fewer-said, inviter-said}
use Rattle.reference_member.proofs.Packets.{packet-named, parts-to}
use Rattle.reference_member.proofs.RowsNamed.{cards-more, named-more}
use Rattle.reference_member.proofs.States.{Base, Conducts, no-rows}
use Rattle.group_model.proofs.ListFacts.{In-left, In-right}

-- ---- what an answer takes

pub some-of : {A : Type 0} (o : Option A) → is_some o ≡ true → (v : A) × (o ≡ Some v)
some-of None e = absurd cc
some-of (Some v) e = (v, refl)

-- a part that opens is there
pub part-of : (K : Primitives) (card : KeyPair) (es : List PairEvent) (o : Option Part) → is_some (payload_in K card es o) ≡ true
    → (q : Part) × (o ≡ Some q)
part-of K card es None e = absurd cc
part-of K card es (Some q) e = (q, refl)

took-answer : (K : Primitives) (me : Id) (k : Kind) → (IsSeeded k ⊎ (k ≡ Add me)) → (b : Bytes) (prior : Option Bytes)
    → (v : Bytes) × (answer_by K k me (Some b) (or_else (handed_by me k (Some b)) prior) None ≡ Some v)
took-answer K me (Create members) w b prior = (member_secret K b me, refl)
took-answer K me Update w b prior = (member_secret K b me, refl)
took-answer K me (Remove y) w b prior = (member_secret K b me, refl)
took-answer K me (Add y) (inl s) b prior = absurd s
took-answer K me (Add y) (inr e) b prior = let same : y ≡ me = cc in rw (equal_id y me same) (K.out b welcome_word, refl)
took-answer K me (Ack o took) (inl s) b prior = absurd s
took-answer K me (Ack o took) (inr e) b prior = absurd cc
took-answer K me (AddAck o) (inl s) b prior = absurd s
took-answer K me (AddAck o) (inr e) b prior = absurd cc
took-answer K me Text (inl s) b prior = absurd s
took-answer K me Text (inr e) b prior = absurd cc

took-known : (K : Primitives) (card : KeyPair) (me : Id) (p : Packet) (l : Log) → is_some (payload K card me l p) ≡ true
    → (IsSeeded p.header.kind ⊎ (p.header.kind ≡ Add me))
    → (v : Bytes) × (answer_known K card me (Took p ∷ l) p.header.id me None ≡ Some v)
took-known K card me p l opens which =
    let s = some-of (payload K card me l p) opens in
    let prior : Option Bytes = prior_of (Took p) (ratchet_known K card me l p.header.sender) p.header.sender in
    let r = subst (λ (z : Option Bytes). (v : Bytes)
    × (answer_by K p.header.kind me z (or_else (handed_by me p.header.kind z) prior) None ≡ Some v)) (sym s.1)
    (took-answer K me p.header.kind which s.0 prior) in
    (r.0, answer-own K card me (Took p) l p.header.id me None refl ∙ r.1)

recipient : (rule : History → List Id) (h : History) (m : Message) (y : Id) (k : Kind) → IsSeeded k → IsAddressee rule h m k y
    → IsRecipient rule h m y
recipient rule h m y (Create members) s a = a
recipient rule h m y Update s a = a
recipient rule h m y (Remove z) s a = a
recipient rule h m y (Add z) s a = absurd s
recipient rule h m y (Ack o took) s a = absurd s
recipient rule h m y (AddAck o) s a = absurd s
recipient rule h m y Text s a = absurd s

module _ {K P : Type 0} (kem : Ghosts K P) (rule : History → List Id) (M : Member) (packet : ReadPacket) (bytes : Bytes)
    (is_read : IsPacket packet bytes) (base : Base kem rule M) where
  abbrev m : Message
  m = message_of packet.header

  abbrev p : Packet
  p = packet_of kem packet

  abbrev rows-now : List Row
  rows-now = M.rows ++ row_of_packet kem packet ∷ []

  abbrev now : Member
  now = with_entry rows-now (Took p) M

  known-now : known now ≡ m ∷ known M
  known-now = history-push M.rows (row_of_packet kem packet)

  base-now : IsHistory (m ∷ known M) → Base kem rule now
  base-now history = record {
    agrees = ap (λ h. m ∷ h) base.agrees ∙ sym known-now;
    fresh = λ e. absurd (no-rows M.rows (row_of_packet kem packet) e);
    named = named-more M.rows (row_of_packet kem packet) base.named (packet-named kem packet bytes is_read);
    secret = base.secret;
    history = subst IsHistory (sym known-now) history;
  }

  cards-now : cards_of rows-now ≡ cards_of M.rows ++ packet.cards
  cards-now = cards-more M.rows (row_of_packet kem packet)

  module _ (inviter : Id → Option Id) (public_key : Id → Bytes) (is_rule : IsMembershipRule rule)
      (encapsulates : Encapsulates (primitives_of kem) inviter public_key)
      (says : SaysOf kem inviter public_key (cards_of rows-now))
      (conducts : Conducts kem rule M (owner kem rule M inviter public_key is_rule encapsulates)) where
    abbrev O : Owner
    O = owner kem rule M inviter public_key is_rule encapsulates

    -- what the packet's cards say is what the owner says
    said : (y : Id) → In y (named_by m.kind) → inviter_by kem.is_public packet.cards y ≡ inviter y
    said y i =
        inviter-said kem inviter public_key packet.cards
        (fewer-said kem inviter public_key (cards_of rows-now) packet.cards
        (λ card j. subst (λ z. In card z) (sym cards-now) (In-right (cards_of M.rows) j)) says)
        y (subst (λ z. In y z) (sym (packet-named kem packet bytes is_read)) i)

    -- what is taken so is kept
    entered : TakesPacket O M.log p → waiting M.log ≡ None → Entered kem rule M packet rows-now (Took p) (known M) O
    entered takes none = record {
      may = takes;
      turn = subst (λ o. Follows o (Took p)) (sym none) tt;
      waits = refl;
      other = takes.other;
      new = λ s. takes.history.1 (subst (λ h. Stands h m.id) (sym base.agrees) s);
      takes = took-known (primitives_of kem) (own_pair kem M) (own_id kem M) p M.log;
      seen = λ opens seeded.
          let q = part-of (primitives_of kem) (own_pair kem M)
          (events (primitives_of kem) (own_pair kem M) (own_id kem M) m.sender M.log) (part_for p.parts (own_id kem M)) opens in
          let r = recipient rule (m ∷ hist M.log) m (own_id kem M) m.kind seeded (takes.part_due q.0 q.1) in
          (subst (λ h. InView rule h m (own_id kem M)) (ap (λ h. m ∷ h) base.agrees ∙ sym known-now) r.in_view, r.other);
    }

    -- over a history
    ready-entered : IsFirst (verdicts (judging kem rule M) packet) answers.Ready
        → Entered kem rule M packet rows-now (Took p) (known M) O
    ready-entered first =
        let history : IsHistory (known M) = subst IsHistory base.agrees (log_kept O M.log conducts.lawful).history in
        let may = ready-may_be_taken (judging kem rule M) packet history first in
        entered
        (taken-lawful (judging kem rule M) packet O M.log p may (record {
          rule = refl;
          id = refl;
          history = base.agrees;
          header = refl;
          parts = parts-to kem packet.parts;
          inviter = λ y e. sym (said y (subst (λ k. In y (named_by k)) (sym e) here));
        }))
        (elim conducts.settled [ inl e ↦ e | inr out ↦ absurd (out.out may.member) ])

    -- a create over no rows
    create-entered : (members : List Id) → m.kind ≡ Create members → M.rows ≡ [] → m.sender ≢ own_id kem M
        → Names m.kind (own_id kem M) → Opens (inviter_by kem.is_public packet.cards) m
        → SendsParts rule [] m (receivers packet.parts)
        → Entered kem rule M packet rows-now (Took p) (known M) O
    create-entered members create empty other names opens sends =
        entered (subst (λ l. TakesPacket O l p) (sym (base.fresh empty)) (record {
          other = other;
          history = (
            λ i k. absurd (In-nothing (subst (λ z. In i z) opens.first k)),
            λ s. In-nothing s.there_is,
            tt,
          );
          valid = record {
            members = opens.members;
            creates = opens.creates;
            first = opens.first;
            number = opens.number;
            among = opens.among;
            invited = λ y i. subst (λ (z : Option Id). IsSome z × (y ≢ m.sender → z ≡ Some m.sender))
                (said y (subst (λ k. In y (named_by k)) (sym opens.creates) i)) (opens.invited y i);
          };
          invited = λ none. names;
          unforked = λ a i. absurd (In-nothing i);
          part_due = λ q e. sends.only (own_id kem M)
              (subst (λ z. In (own_id kem M) z) (parts-to kem packet.parts) (part-due p.parts (own_id kem M) q e));
        }))
        (ap waiting (base.fresh empty))

  -- what comes of it
  abbrev pub Took-takings : Type 0
  Took-takings = Takings kem rule M packet rows-now (Took p) (known M)

  more-now : (card : Card) → In card (cards_of M.rows) → In card (cards_of rows-now)
  more-now card i = subst (λ z. In card z) (sym cards-now) (In-left packet.cards i)

  pub ready-takings : IsFirst (verdicts (judging kem rule M) packet) answers.Ready → Took-takings
  ready-takings first = record {
    base = base-now (ready-may_be_taken (judging kem rule M) packet base.history first).history;
    is = known-now;
    more = more-now;
    entered = λ inviter public_key is_rule encapsulates says conducts.
        ready-entered inviter public_key is_rule encapsulates says conducts first;
  }

  pub create-takings : (members : List Id) → m.kind ≡ Create members → M.rows ≡ [] → m.sender ≢ own_id kem M
      → Names m.kind (own_id kem M) → Opens (inviter_by kem.is_public packet.cards) m
      → SendsParts rule [] m (receivers packet.parts) → Took-takings
  create-takings members create empty other names opens sends = record {
    base = base-now (subst (λ h. IsHistory (m ∷ h)) (sym (ap hist (base.fresh empty)) ∙ base.agrees) (
      λ i k. absurd (In-nothing (subst (λ z. In i z) opens.first k)),
      λ s. In-nothing s.there_is,
      tt,
    ));
    is = known-now;
    more = more-now;
    entered = λ inviter public_key is_rule encapsulates says conducts.
        create-entered inviter public_key is_rule encapsulates says conducts members create empty other names opens sends;
  }
