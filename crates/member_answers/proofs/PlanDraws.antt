-- What a plan draws, and what it lacks.
use Rattle.std.proofs.Common.{◌≡◌, ℕ, Bool, List, ◌∷◌, IsSome, subst}
use Rattle.kem_trait.specs.declared.kem.Kem.{Ghosts}
use Rattle.group_model.specs.Sets.{Bytes, Id, In}
use Rattle.group_model.specs.Messages.{Message, History}
use Rattle.group_model.specs.Membership.{IsAddressee, IsMembershipRule, ids_named}
use Rattle.group_model.specs.Pairing.{draws}
use Rattle.group_model.specs.Primitives.{Primitives}
use Rattle.group_model.proofs.Places.{in-place}
use Rattle.group_keys.specs.Primitives.{primitives_of}
use Rattle.group_messages.specs.Messages.{message_of}
use Rattle.two_party.specs.Drawn.{Drawn, left_for}
use Rattle.wire_codec.specs.Packets.{Packet as ReadPacket}
use Rattle.body_parts.specs.declared.addressing.Receiver.{Receiver}
use Rattle.body_parts.specs.Receivers.{AreReceivers, ids_to}
use Rattle.body_parts.specs.Sending.{AreDrawnFrom}
use Rattle.causal_cast.proofs.Forwards.{places-of_answer}
use Rattle.forwarding.specs.Answers.{IsAnswerOf}
use Rattle.next_messages.proofs.Addressed.{addressed-placed}
use Rattle.reference_member.specs.Accepted.{DrawsForAnswer, part_is_there, with_taken, with_took}
use Rattle.reference_member.specs.Members.{Member, known}
use Rattle.member_answers.specs.Plans.{IsAnswerCrowd, IsPlanned, answer_to}
use Rattle.member_answers.proofs.AnswerKinds.{answered-again, answers-move_nobody}

-- draws for the receivers of the crowd make the plan
pub planned : (K : Primitives) (rule : History → List Id) (h : History) (place : ℕ) (me : Id) (o : Message)
    (took : Bool) (random : Bytes) (bits : ℕ → Bool) (drawn : List Drawn) (to : List Receiver)
    → IsAnswerCrowd rule h place me o took bits → AreReceivers (ids_named h) bits to
    → ((y : Id) → In y (ids_to to) → IsSome (left_for drawn y)) → AreDrawnFrom K random drawn (ids_to to)
    → IsPlanned K rule h place me o took random bits drawn
planned K rule h place me o took random bits drawn to crowd are left from = record {
  crowd = crowd;
  left = λ p y at set. left y (are.all p y at set);
  drawn_from = λ p y at set. from y (are.all p y at set);
}

-- an answer with parts, as if the operation's part opened, has draws for each
module _ (K : Primitives) (rule : History → List Id) (is_rule : IsMembershipRule rule) (h : History) (place : ℕ)
    (me : Id) (o : Message) (took : Bool) (random : Bytes) (bits : ℕ → Bool) (drawn : List Drawn)
    (plan : IsPlanned K rule h place me o took random bits drawn) (m : Message) (k : IsAnswerOf h place m)
    (kind : m.kind ≡ answer_to me o took) where
  pub due-drawn : (y : Id) → IsAddressee rule (m ∷ h) m m.kind y → IsSome (draws K random y)
  due-drawn y a =
      let placed = subst (λ l. In y l) (places-of_answer h m k.moves_nobody) (addressed-placed rule is_rule h m y a) in
      let at = in-place (ids_named h) y placed in
      let set = ((plan.crowd m k kind).each at.0 y at.1).1 a in
      subst IsSome (plan.drawn_from at.0 y at.1 set) (plan.left at.0 y at.1 set)

module _ {K P : Type 0} (kem : Ghosts K P) (rule : History → List Id) (is_rule : IsMembershipRule rule)
    (packet : ReadPacket) (M : Member) (place : ℕ) (me : Id) (random : Bytes) (bits : ℕ → Bool) (drawn : List Drawn)
    (plan : IsPlanned (primitives_of kem) rule (known (with_taken kem packet M)) place me (message_of packet.header)
    (part_is_there kem packet M) random bits drawn)
    (a : Message) (opened : Bool) (k : IsAnswerOf (known (with_taken kem packet M)) place a)
    (kind : a.kind ≡ answer_to me (message_of packet.header) opened) where
  abbrev due : Message
  due = record a { kind = with_took (part_is_there kem packet M) a.kind }

  due-kind : due.kind ≡ answer_to me (message_of packet.header) (part_is_there kem packet M)
  due-kind = answered-again me (message_of packet.header) (part_is_there kem packet M) opened a.kind kind

  due-answers : IsAnswerOf (known (with_taken kem packet M)) place due
  due-answers = record {
    history = k.history;
    heads = k.heads;
    sender = k.sender;
    moves_nobody = answers-move_nobody me (message_of packet.header) (part_is_there kem packet M) due.kind due-kind;
  }

  pub answer-drawn : DrawsForAnswer kem rule random packet M a
  answer-drawn = due-drawn (primitives_of kem) rule is_rule (known (with_taken kem packet M)) place me
      (message_of packet.header) (part_is_there kem packet M) random bits drawn plan due due-answers due-kind
