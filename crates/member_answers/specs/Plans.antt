-- What is drawn for a member's answer before the operation is taken. docs/GROUP.md, "The reference member".
use Rattle.std.specs.Prelude.{◌≡◌, ℕ, Bool, true, List, ◌∷◌, IsSome}
use Rattle.group_fields.specs.declared.header.Kind.{Kind as HeaderKind}
use Rattle.group_fields.specs.declared.header.Kind.TheVariants as kinds
use Rattle.group_model.specs.Sets.{Bytes, Id}
use Rattle.group_model.specs.Messages.{Kind, Ack, AddAck, Message, History}
use Rattle.group_model.specs.Membership.{IsAddressee, ids_named}
use Rattle.group_model.specs.Marks.{IsCrowd, IsPlace}
use Rattle.group_model.specs.Pairing.{draws}
use Rattle.group_model.specs.Primitives.{Primitives}
use Rattle.two_party.specs.Drawn.{Drawn, left_for}
use Rattle.forwarding.specs.Answers.{IsAnswerOf}
use Rattle.next_messages.specs.Bodies.{LacksDraws}
use Rattle.reference_member.specs.Messages.{answer_kind}

-- an answer to the operation: an add-ack, and else an ack that says whether its sender took the operation
abbrev pub answer_by : HeaderKind → (operation : Id) → (took : Bool) → Kind
answer_by kinds.AddAck operation took = AddAck operation
answer_by _ operation took = Ack operation took

-- how the member answers the message of another
abbrev pub answer_to : (me : Id) → Message → (took : Bool) → Kind
answer_to me o took = answer_by (answer_kind me o.kind) o.id took

-- The bits are the places of those whom the answer to the operation has a part for, whatever answer of its kind the
-- member at the place makes next. The history has the operation.
abbrev pub IsAnswerCrowd : (rule : History → List Id) → History → (place : ℕ) → (me : Id) → Message → (took : Bool)
    → (bits : ℕ → Bool) → Type 0
IsAnswerCrowd rule h place me o took bits =
    (m : Message) → IsAnswerOf h place m → m.kind ≡ answer_to me o took
    → IsCrowd (ids_named h) bits (λ y. IsAddressee rule (m ∷ h) m m.kind y)

-- A plan of the answer: whom it has parts for, and what a step's random bytes draw for each of these.
pub record IsPlanned (K : Primitives) (rule : History → List Id) (h : History) (place : ℕ) (me : Id) (o : Message)
    (took : Bool) (random : Bytes) (bits : ℕ → Bool) (drawn : List Drawn) : Type 0 where
  pub crowd : IsAnswerCrowd rule h place me o took bits
  -- each has draws that are left
  pub left : (p : ℕ) (y : Id) → IsPlace (ids_named h) p y → bits p ≡ true → IsSome (left_for drawn y)
  pub drawn_from : (p : ℕ) (y : Id) → IsPlace (ids_named h) p y → bits p ≡ true → left_for drawn y ≡ draws K random y

-- For one of those whom the answer has a part for the random bytes give no usable key.
pub record LacksAnswerKey (K : Primitives) (rule : History → List Id) (h : History) (place : ℕ) (me : Id) (o : Message)
    (took : Bool) (random : Bytes) : Type 0 where
  pub bits : ℕ → Bool
  pub crowd : IsAnswerCrowd rule h place me o took bits
  pub lacks : LacksDraws K (ids_named h) bits random
