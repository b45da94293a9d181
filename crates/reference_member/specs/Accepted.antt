-- The steps that a member accepts, and what it is after each. docs/GROUP.md, "The reference member".
use Rattle.std.specs.Prelude.{◌≡◌, ℕ, Bool, is_some, IsSome, List, [], ◌∷◌, ◌++◌, Option, Some, None}
use Rattle.kem_trait.specs.declared.kem.Kem.{Ghosts}
use Rattle.group_fields.specs.declared.header.Target.TheVariants as targets
use Rattle.group_model.specs.Sets.{Bytes, Id}
use Rattle.group_model.specs.Messages.{Kind, Create, Update, Remove, Add, Ack, AddAck, Text, Message, History}
use Rattle.group_model.specs.Membership.{IsAddressee}
use Rattle.group_model.specs.Validity.{NeedsAnswer}
use Rattle.group_model.specs.Pairing.{draws}
use Rattle.group_model.specs.Packets.{Given, part_for}
use Rattle.group_model.specs.Logs.{Joined, Took, Made}
use Rattle.group_model.specs.Knowledge.{payload}
use Rattle.group_keys.specs.Primitives.{primitives_of}
use Rattle.group_messages.specs.Messages.{message_of}
use Rattle.group_packets.specs.Packets.{packet_of}
use Rattle.causal_history.specs.Rows.{Row, history_of}
use Rattle.member_identity.specs.Identity.{secret_from}
use Rattle.member_view.specs.Causes.{GivesNone}
use Rattle.wire_codec.specs.Packets.{IsPacket, Packet as ReadPacket, WelcomeRows}
use Rattle.welcome_history.specs.Welcomes.{rows_of}
use Rattle.reference_member.specs.Members.{Member, known, own_id, own_pair}
use Rattle.reference_member.specs.Messages.{IsByCommand, IsNext, MadeMessage, answer_kind, answer_took, as_packet}
use Rattle.reference_member.specs.Refusals.{refusals_of}
use Rattle.reference_member.specs.Steps as inputs
use Rattle.reference_member.specs.Steps.{HasRecord, Input, Step}

-- the text that a step is given
abbrev pub text_of : Input → Bytes
text_of (inputs.Init inviter height) = []
text_of (inputs.Create cards) = []
text_of (inputs.Add card) = []
text_of (inputs.Remove target) = []
text_of inputs.Update = []
text_of (inputs.Send text) = text
text_of (inputs.Take packet) = []

abbrev pub given_by : Step → Given
given_by step = record { random = step.random; text = text_of step.input }

module _ {K P : Type 0} (kem : Ghosts K P) where
  -- the row that a packet is
  abbrev pub row_of_packet : ReadPacket → Row
  row_of_packet packet = record { header = packet.header; cards = packet.cards }

  -- an add brings a member that has no history into the group with the history that it hands on
  abbrev pub with_taken_over : List Row → Option WelcomeRows → ReadPacket → Member → Member
  with_taken_over [] None packet M =
      record M { rows = row_of_packet packet ∷ []; log = Took (packet_of kem packet) ∷ M.log }
  with_taken_over [] (Some welcome) packet M =
      record M { rows = rows_of welcome ++ row_of_packet packet ∷ []; log = Joined (packet_of kem packet) ∷ M.log }
  with_taken_over (row ∷ rows) handed_on packet M =
      record M { rows = M.rows ++ row_of_packet packet ∷ []; log = Took (packet_of kem packet) ∷ M.log }

  -- the member with a packet taken
  unfoldable pub with_taken : ReadPacket → Member → Member
  with_taken packet M = with_taken_over M.rows packet.history packet M

  -- the history before the packet: for who joins by it the one that it hands on
  abbrev pub rows_before : List Row → Option WelcomeRows → List Row
  rows_before [] None = []
  rows_before [] (Some welcome) = rows_of welcome
  rows_before (row ∷ rows) handed_on = row ∷ rows

  abbrev pub known_before : ReadPacket → Member → History
  known_before packet M = history_of (rows_before M.rows packet.history)

  -- the member with a message of its own
  unfoldable pub with_made : Given → MadeMessage → Member → Member
  with_made t made M = record M {
    rows = M.rows ++ record { header = made.header; cards = made.carried.cards } ∷ [];
    log = Made (as_packet kem M made) t ∷ M.log;
  }

  -- whether the packet's part for the member opens
  abbrev pub part_opens : ReadPacket → Member → Bool
  part_opens packet M =
      is_some (payload (primitives_of kem) (own_pair kem M) (own_id kem M) M.log (packet_of kem packet))

  -- whether it has one
  abbrev pub part_is_there : ReadPacket → Member → Bool
  part_is_there packet M = is_some (part_for (packet_of kem packet).parts (own_id kem M))

-- one more, where there is one
abbrev pub with_message : Option MadeMessage → List MadeMessage → List MadeMessage
with_message None older = older
with_message (Some message) older = message ∷ older

-- the kind, with another word on whether the operation was taken
abbrev pub with_took : Bool → Kind → Kind
with_took took (Create members) = Create members
with_took took Update = Update
with_took took (Remove y) = Remove y
with_took took (Add y) = Add y
with_took took (Ack o said) = Ack o took
with_took took (AddAck o) = AddAck o
with_took took Text = Text

module _ {K P : Type 0} (kem : Ghosts K P) (rule : History → List Id) where
  -- The step's random bytes give usable keys for each whom the answer has a part for. They are drawn before it is known
  -- whether the operation's part opens, as if it did.
  abbrev pub DrawsForAnswer : (random : Bytes) → ReadPacket → Member → Message → Type 0
  DrawsForAnswer random packet M a =
      let due : Message = record a { kind = with_took (part_is_there kem packet M) a.kind } in
      (y : Id) → IsAddressee rule (due ∷ known (with_taken kem packet M)) due due.kind y
      → IsSome (draws (primitives_of kem) random y)

  -- The packet is taken, with its answer.
  pub record Answers (t : Given) (packet : ReadPacket) (M : Member) (answer : MadeMessage) : Type 0 where
    pub is_next : IsNext kem rule (with_taken kem packet M) t []
        (answer_kind (own_id kem M) (message_of packet.header).kind)
        (targets.Answer (record { 0 = record { 0 = (message_of packet.header).id } })
        (answer_took (answer_kind (own_id kem M) (message_of packet.header).kind) (part_opens kem packet M)))
        answer
    pub drawn : DrawsForAnswer t.random packet M (message_of answer.header)

  -- What a packet leaves that is taken: an operation of another is answered at once, but by whom it removes.
  pub record Takes (t : Given) (bytes : Bytes) (before : Member) (made : Option MadeMessage) (after : Member)
      : Type 0 where
    pub packet : ReadPacket
    pub is_read : IsPacket packet bytes
    pub answered : NeedsAnswer rule (own_id kem before) (known_before kem packet before) (message_of packet.header)
        → (answer : MadeMessage) × (made ≡ Some answer) × Answers t packet before answer
        × (after ≡ with_made kem t answer (with_taken kem packet before))
    pub unanswered : (NeedsAnswer rule (own_id kem before) (known_before kem packet before)
        (message_of packet.header) → ⊥) → (made ≡ None) × (after ≡ with_taken kem packet before)

  -- a command makes its message
  pub record Commands (t : Given) (input : Input) (before : Member) (made : Option MadeMessage) (after : Member)
      : Type 0 where
    pub message : MadeMessage
    pub made_is : made ≡ Some message
    pub by_command : IsByCommand kem rule before t input message
    pub after_is : after ≡ with_made kem t message before

  -- what a step of a member leaves that was made
  abbrev pub Moves : (t : Given) → Input → Member → Option MadeMessage → Member → Type 0
  Moves t (inputs.Init inviter height) before made after = ⊥
  Moves t (inputs.Create cards) before made after = Commands t (inputs.Create cards) before made after
  Moves t (inputs.Add card) before made after = Commands t (inputs.Add card) before made after
  Moves t (inputs.Remove target) before made after = Commands t (inputs.Remove target) before made after
  Moves t inputs.Update before made after = Commands t inputs.Update before made after
  Moves t (inputs.Send text) before made after = Commands t (inputs.Send text) before made after
  Moves t (inputs.Take packet) before made after = Takes t packet before made after

  -- the first step makes the member, where its random bytes give a usable key
  pub record Begins (inviter : Id) (height : ℕ) (random : Bytes) (after : Member) : Type 0 where
    pub secret : Bytes
    pub usable : secret_from kem random ≡ Some secret
    pub is : after ≡ record {
      inviter = inviter;
      height = height;
      random = random;
      secret = secret;
      rows = [];
      log = [];
    }

  abbrev pub BeginsBy : Input → (random : Bytes) → Option MadeMessage → Member → Type 0
  BeginsBy (inputs.Init inviter height) random made after = Begins inviter height random after × (made ≡ None)
  BeginsBy (inputs.Create cards) random made after = ⊥
  BeginsBy (inputs.Add card) random made after = ⊥
  BeginsBy (inputs.Remove target) random made after = ⊥
  BeginsBy inputs.Update random made after = ⊥
  BeginsBy (inputs.Send text) random made after = ⊥
  BeginsBy (inputs.Take packet) random made after = ⊥

  abbrev pub Becomes : Option Member → Step → Option MadeMessage → Member → Type 0
  Becomes None step made after = BeginsBy step.input step.random made after
  Becomes (Some M) step made after = Moves (given_by step) step.input M made after

  -- The step is accepted: it has a record, nothing refuses it, its random bytes give usable keys, and the message that
  -- it makes is new.
  pub record Accepts (before : Option Member) (step : Step) (made : Option MadeMessage) (after : Member) : Type 0 where
    pub recorded : HasRecord kem step
    pub refused_by_none : GivesNone (refusals_of kem rule before step.input)
    pub becomes : Becomes before step made after

  -- The member after these steps, the newest first, and the messages that it made in them, the newest first.
  abbrev pub IsRunOf : List Step → Option Member → List MadeMessage → Type 0
  IsRunOf [] M made = (M ≡ None) × (made ≡ [])
  IsRunOf (step ∷ steps) M made =
      (before : Option Member) × (older : List MadeMessage) × (message : Option MadeMessage) × (after : Member)
      × IsRunOf steps before older × Accepts before step message after × (M ≡ Some after)
      × (made ≡ with_message message older)
