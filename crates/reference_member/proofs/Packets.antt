-- What a packet that is read carries for its model.
use Rattle.std.proofs.Common.{◌≡◌, List, [], ◌∷◌, Some, None, map, refl, sym, ◌∙◌, ap, subst}
use Rattle.kem_trait.specs.declared.kem.Kem.{Ghosts}
use Rattle.group_fields.specs.Headers.{SuitsKind}
use Rattle.group_fields.specs.declared.header.Kind.{Kind as HeaderKind}
use Rattle.group_fields.specs.declared.header.Kind.TheVariants as kinds
use Rattle.group_fields.specs.declared.header.Target.{Target}
use Rattle.group_fields.specs.declared.header.Target.TheVariants as targets
use Rattle.group_fields.specs.declared.ids.Digest.{Digest}
use Rattle.group_model.specs.Sets.{Bytes, Id}
use Rattle.group_model.specs.Messages.{Create, Add}
use Rattle.group_model.specs.Membership.{named_by}
use Rattle.group_model.specs.Packets.{Addressed}
use Rattle.group_messages.specs.Messages.{ids_of, kind_by, kind_of, header_kind}
use Rattle.group_messages.proofs.HeaderFacts.{header_kind-kind_by}
use Rattle.group_packets.specs.Packets.{addressed_of}
use Rattle.wire_codec.specs.Packets.{AddressedPart, Body, IsPacket, Packet as ReadPacket, WelcomeRows, body_of, id_of}
use Rattle.wire_codec.specs.Order.{CarriesWhatSuits, card_ids}
use Rattle.wire_codec.proofs.Joins.{in_order, suits_header}
use Rattle.causal_cast.specs.Judging.{receivers}
use Rattle.reference_member.specs.Accepted.{row_of_packet}
use Rattle.reference_member.proofs.Histories.{map-map}
use Rattle.reference_member.proofs.RowsNamed.{IsNamed}

-- the cards that suit a header are those of the ids that it names
suiting : (k : HeaderKind) (t : Target) (b : Body) → SuitsKind k t → CarriesWhatSuits k t b
    → ids_of (card_ids b.cards) ≡ named_by (kind_by k t)
suiting kinds.Create (targets.Members ids) b s c = ap ids_of c.0
suiting kinds.Create targets.Nothing b s c = absurd s
suiting kinds.Create (targets.Member y) b s c = absurd s
suiting kinds.Create (targets.Answer o took) b s c = absurd s
suiting kinds.Update t b s c = ap (λ z. ids_of (card_ids z)) c.0
suiting kinds.Remove t b s c = ap (λ z. ids_of (card_ids z)) c.0
suiting kinds.Add (targets.Member y) b s c = ap ids_of c.0
suiting kinds.Add (targets.Members ids) b s c = absurd s
suiting kinds.Add targets.Nothing b s c = absurd s
suiting kinds.Add (targets.Answer o took) b s c = absurd s
suiting kinds.Ack t b s c = ap (λ z. ids_of (card_ids z)) c.0
suiting kinds.AddAck t b s c = ap (λ z. ids_of (card_ids z)) c.0
suiting kinds.Text t b s c = ap (λ z. ids_of (card_ids z)) c.0

pub packet-named : {K P : Type 0} (kem : Ghosts K P) (packet : ReadPacket) (bytes : Bytes) → IsPacket packet bytes
    → IsNamed (row_of_packet kem packet)
packet-named kem packet bytes is =
    sym (map-map (λ (id : Digest). id.0) id_of packet.cards)
    ∙ suiting packet.header.kind packet.header.target (body_of packet) (in_order packet bytes is).header.target
    (suits_header packet bytes is)

-- a packet that is no add hands on nothing, and an add hands on a history
pub create-alone : (packet : ReadPacket) (bytes : Bytes) (members : List Id) → IsPacket packet bytes
    → kind_of packet.header ≡ Create members → packet.history ≡ None
create-alone packet bytes members is e =
    let k : packet.header.kind ≡ kinds.Create =
    sym (header_kind-kind_by packet.header.kind packet.header.target) ∙ ap header_kind e in
    (subst (λ z. CarriesWhatSuits z packet.header.target (body_of packet)) k (suits_header packet bytes is)).1

pub add-hands_on : (packet : ReadPacket) (bytes : Bytes) (y : Id) → IsPacket packet bytes
    → kind_of packet.header ≡ Add y → (welcome : WelcomeRows) × (packet.history ≡ Some welcome)
add-hands_on packet bytes y is e =
    let k : packet.header.kind ≡ kinds.Add =
    sym (header_kind-kind_by packet.header.kind packet.header.target) ∙ ap header_kind e in
    (subst (λ z. CarriesWhatSuits z packet.header.target (body_of packet)) k (suits_header packet bytes is)).2

-- its parts are for the same ids
pub parts-to : {K P : Type 0} (kem : Ghosts K P) (parts : List AddressedPart)
    → map (λ (a : Addressed). a.to) (map (addressed_of kem) parts) ≡ receivers parts
parts-to kem [] = refl
parts-to kem (one ∷ parts) = ap (λ z. one.to.0.0 ∷ z) (parts-to kem parts)
