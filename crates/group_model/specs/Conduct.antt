-- What a member makes that answers at once: its commands, and the answer to each operation that it takes,
-- in the step that takes it. docs/GROUP.md, "Commands and answers".
use Rattle.std.specs.Prelude.{◌≡◌, ◌+◌, [], ◌∷◌, Option, Some, None}
use Rattle.group_model.specs.Sets.{Bytes, Id, In}
use Rattle.group_model.specs.Messages.{Kind, Create, Update, Remove, Add, Ack, AddAck, Text, Message, AreHeads}
use Rattle.group_model.specs.Validity.{Answers, MeetsKind, GoesOn, count_of}
use Rattle.group_model.specs.Messages.{past}
use Rattle.group_model.specs.Settings.{Setting, card_of, Owner, owner_in}
use Rattle.group_model.specs.Packets.{Packet, Given}
use Rattle.group_model.specs.Logs.{LogEntry, Joined, Took, Made, Log, hist}
use Rattle.group_model.specs.Knowledge.{known}
use Rattle.group_model.specs.LawfulLogs.{IsLawfulLog}
use Rattle.group_model.specs.Worlds.{Turns, log_of}
use Rattle.group_model.specs.LawfulWorlds.{IsLawful}

-- an operation asks for an answer
abbrev pub asks : Kind → Id → Option Id
asks (Create members) i = Some i
asks Update i = Some i
asks (Remove y) i = Some i
asks (Add y) i = Some i
asks (Ack o took) i = None
asks (AddAck o) i = None
asks Text i = None

-- the operation that the newest entry took, and that the next message answers
abbrev pub waiting : Log → Option Id
waiting [] = None
waiting (Joined p ∷ l) = Some p.header.id
waiting (Took p ∷ l) = asks p.header.kind p.header.id
waiting (Made p t ∷ l) = None

-- an entry that may come where this operation waits: its answer alone; and where none does, no answer
abbrev pub Follows : Option Id → LogEntry → Type 0
Follows None (Joined p) = Unit {0}
Follows None (Took p) = Unit {0}
Follows None (Made p t) = (i : Id) → Answers p.header.kind i → ⊥
Follows (Some o) (Joined p) = ⊥
Follows (Some o) (Took p) = ⊥
Follows (Some o) (Made p t) = Answers p.header.kind o

-- each operation that was taken was answered by the next entry
abbrev pub AnswersAtOnce : Log → Type 0
AnswersAtOnce [] = Unit {0}
AnswersAtOnce (e ∷ l) = Follows (waiting l) e × AnswersAtOnce l

-- what a member looks at before it makes a message, over its whole history
pub record MayMake (O : Owner) (l : Log) (m : Message) : Type 0 where
  pub sender : m.sender ≡ O.id
  pub member : In O.id (O.rule (hist l))
  pub number : m.seq ≡ count_of O.id (hist l) + 1
  pub suits : MeetsKind O.rule O.inviter (hist l) O.id m.kind
  pub heads : AreHeads (hist l) m.predecessors

-- with every lawful log what a member makes that answers at once is valid over its past, by the first to the sixth rule
abbrev pub MadeIsValid : Type 0
MadeIsValid = (O : Owner) (l : Log) (p : Packet) (t : Given) → IsLawfulLog O l → AnswersAtOnce l
    → Follows (waiting l) (Made p t) → MayMake O l p.header
    → GoesOn O.rule O.inviter (past (hist l) p.header.predecessors) p.header

-- so it is in every lawful world
abbrev pub MadeIsValidInWorlds : Type 0
MadeIsValidInWorlds = (G : Setting) (w : Turns) (x : Id) (p : Packet) (t : Given) → IsLawful G w
    → AnswersAtOnce (log_of w x)
    → Follows (waiting (log_of w x)) (Made p t) → MayMake (owner_in G x) (log_of w x) p.header
    → GoesOn G.rule G.inviter (past (hist (log_of w x)) p.header.predecessors) p.header

-- with every lawful log a member knows its own ratchet: what the parts of its adds and add-acks carry
abbrev pub OwnRatchetKnown : Type 0
OwnRatchetKnown = (O : Owner) (l : Log) → IsLawfulLog O l
    → (r : Bytes) × (known O.primitives O.card O.id l O.id ≡ Some r)

abbrev pub OwnRatchetKnownInWorlds : Type 0
OwnRatchetKnownInWorlds = (G : Setting) (w : Turns) (x : Id) → IsLawful G w
    → (r : Bytes) × (known G.primitives (card_of G x) x (log_of w x) x ≡ Some r)
