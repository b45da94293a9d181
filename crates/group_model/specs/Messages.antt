-- Messages, histories, pasts and heads.
-- The DCGKA paper's control messages in their causal order; docs/GROUP.md, "Messages and
-- histories".
use Rattle.std.specs.Prelude.{◌≡◌, ℕ, Bool, cond, List, [], ◌∷◌, ◌++◌}
use Rattle.group_model.specs.Sets.{Bytes, Id, In, has, IsAscending}

-- what a message does. `Ack` and `AddAck` name the operation that they answer
pub data Kind : Type 0 where
  Create : (members : List Id) → Kind
  Update : Kind
  Remove : (target : Id) → Kind
  Add : (target : Id) → Kind
  Ack : (operation : Id) → (took : Bool) → Kind
  AddAck : (operation : Id) → Kind
  Text : Kind

-- A message is its header; the id is the digest of the header's bytes. Among these is the digest of the body's bytes,
-- so the body enters the id.
pub record Message : Type 0 where
  pub id : Id
  pub set : ℕ
  pub group : Id
  pub sender : Id
  pub seq : ℕ
  pub kind : Kind
  pub predecessors : List Id
  pub body : Bytes

-- the newest message first
abbrev pub History : Type 0
History = List Message

-- those messages of the history that the ids lead back to
unfoldable pub past : History → List Id → History
past [] wanted = []
past (m ∷ older) wanted =
    cond (has wanted m.id) (m ∷ past older (m.predecessors ++ wanted)) (past older wanted)

-- the message with its past
abbrev pub with_past : History → Message → History
with_past h m = m ∷ past h m.predecessors

-- a message of the history has the id
pub record Stands (h : History) (i : Id) : Type 0 where
  pub by : Message
  pub there_is : In by h
  pub has_id : by.id ≡ i

-- each predecessor stands earlier, and no id stands twice
abbrev pub IsHistory : History → Type 0
IsHistory [] = Unit {0}
IsHistory (m ∷ older) =
    ((i : Id) → In i m.predecessors → Stands older i) × (Stands older m.id → ⊥) × IsHistory older

-- a message of the set that is in no other's past
pub record IsHead (p : History) (a : Message) : Type 0 where
  pub there_is : In a p
  pub last : (b : Message) → In b p → In a (past p b.predecessors) → ⊥

-- the ids are exactly those of the heads, in ascending order
pub record AreHeads (p : History) (ids : List Id) : Type 0 where
  pub ascending : IsAscending ids
  pub all : (a : Message) → IsHead p a → In a.id ids
  pub only : (i : Id) → In i ids → (a : Message) × IsHead p a × (a.id ≡ i)
