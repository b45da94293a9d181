-- What a member learned and read, by its log. docs/GROUP.md, "The reference member".
use Rattle.std.specs.Prelude.{List, [], ◌∷◌, ◌++◌, Option, None}
use Rattle.group_model.specs.Sets.{Bytes, Id}
use Rattle.group_model.specs.Messages.{Message, History}
use Rattle.group_model.specs.Primitives.{KeyPair, Primitives}
use Rattle.group_model.specs.KeyTerms.{KeyUse, SendsSeed, AddsMember, TakesSecret, HandsRatchet, SpendsKey, LeavesKeys}
use Rattle.group_model.specs.KeyTerms.{key_use}
use Rattle.group_model.specs.Logs.{LogEntry, Joined, Took, Made, Log, header_of}
use Rattle.group_model.specs.Knowledge.{learnt_at, text_at}

-- the update secret of a message, where it is known
pub record LearnedRow : Type 0 where
  pub id : Id
  pub secret : Option Bytes

-- a text of the history: its message, its sender, and its bytes where they were sent or read
pub record TextTold : Type 0 where
  pub id : Id
  pub sender : Id
  pub text : Option Bytes

-- a message that steps its sender's ratchet has a row
abbrev pub learned_by_use : KeyUse → Id → Option Bytes → List LearnedRow
learned_by_use SendsSeed i secret = record { id = i; secret = secret } ∷ []
learned_by_use (AddsMember y) i secret = record { id = i; secret = secret } ∷ []
learned_by_use (TakesSecret o) i secret = record { id = i; secret = secret } ∷ []
learned_by_use HandsRatchet i secret = record { id = i; secret = secret } ∷ []
learned_by_use SpendsKey i secret = []
learned_by_use LeavesKeys i secret = []

-- a text has a row
abbrev pub told_by_use : KeyUse → Message → Option Bytes → List TextTold
told_by_use SendsSeed m text = []
told_by_use (AddsMember y) m text = []
told_by_use (TakesSecret o) m text = []
told_by_use HandsRatchet m text = []
told_by_use SpendsKey m text = record { id = m.id; sender = m.sender; text = text } ∷ []
told_by_use LeavesKeys m text = []

abbrev pub told_of : Message → Option Bytes → List TextTold
told_of m text = told_by_use (key_use m.kind) m text

-- texts that stand only as rows of a welcome, oldest first: nobody read them to the member
abbrev pub unread : History → List TextTold
unread [] = []
unread (m ∷ older) = unread older ++ told_of m None

abbrev pub handed_on_by : LogEntry → History
handed_on_by (Joined p) = p.rows
handed_on_by (Took p) = []
handed_on_by (Made p t) = []

module _ (K : Primitives) (card : KeyPair) (self : Id) where
  -- what the member learned, oldest first: of each message that it took or made and that steps a ratchet
  unfoldable pub learned_over : Log → List LearnedRow
  learned_over [] = []
  learned_over (e ∷ l) =
      learned_over l
      ++ learned_by_use (key_use (header_of e).kind) (header_of e).id (learnt_at K card self e l)

  -- the texts of its history, in order
  unfoldable pub texts_over : Log → List TextTold
  texts_over [] = []
  texts_over (e ∷ l) =
      texts_over l ++ (unread (handed_on_by e) ++ told_of (header_of e) (text_at K card self e l))
