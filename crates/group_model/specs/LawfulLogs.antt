-- Lawful logs: each entry is one that the log's owner may leave, whatever others send it. It asks nothing of other
-- members. Valid is here as far as header and cards tell. docs/GROUP.md, "Lawful logs".
use Rattle.std.specs.Prelude.{◌≡◌, ◌≢◌, true, List, [], ◌∷◌, Some, None}
use Rattle.group_model.specs.Sets.{Bytes, Id}
use Rattle.group_model.specs.Messages.{Ack, Add, Text, IsHistory, AreHeads}
use Rattle.group_model.specs.Membership.{Names, IsAddressee, AreAddressees}
use Rattle.group_model.specs.Validity.{MayFollow, AllValid, IsUnforked, AreUnforked}
use Rattle.group_model.specs.Pairing.{Part}
use Rattle.group_model.specs.Settings.{Owner}
use Rattle.group_model.specs.Packets.{Packet, Given, part_for}
use Rattle.group_model.specs.Logs.{LogEntry, Joined, Took, Made, Log, hist}
use Rattle.group_model.specs.Knowledge.{answer_known, chain_known, text_sealed}
use Rattle.group_model.specs.Parts.{parts_of, part_sent}

module _ (O : Owner) where
  -- The owner with this log may make the packet. An ack has `took` only where its sender knows the secret that it
  -- takes, since the operation's part to it opened.
  pub record MakesPacket (l : Log) (p : Packet) (t : Given) : Type 0 where
    pub sender : p.header.sender ≡ O.id
    pub history : IsHistory (p.header ∷ hist l)
    pub heads : AreHeads (hist l) p.header.predecessors
    pub valid : MayFollow O.rule O.inviter (hist l) p.header
    pub rows : (y : Id) → p.header.kind ≡ Add y → p.rows ≡ hist l
    pub addressees : List Id
    pub to_whom : AreAddressees O.rule (p.header ∷ hist l) p.header addressees
    pub parts : parts_of (part_sent O.primitives O.card O.id O.public_key l t p.header.kind) addressees ≡ Some p.parts
    pub took : (i : Id) → p.header.kind ≡ Ack i true
        → (v : Bytes) × (answer_known O.primitives O.card O.id l i O.id None ≡ Some v)
    pub text : p.header.kind ≡ Text
        → text_sealed O.primitives (chain_known O.primitives O.card O.id l O.id) t.text ≡ Some p.sealed

  -- The owner with this log may take the packet. What takes it in without a history is a create; a part for it is one
  -- that the message is to have.
  pub record TakesPacket (l : Log) (p : Packet) : Type 0 where
    pub other : p.header.sender ≢ O.id
    pub history : IsHistory (p.header ∷ hist l)
    pub valid : MayFollow O.rule O.inviter (hist l) p.header
    pub invited : l ≡ [] → Names p.header.kind O.id
    pub unforked : IsUnforked (hist l) p.header
    pub part_due : (q : Part) → part_for p.parts O.id ≡ Some q
        → IsAddressee O.rule (p.header ∷ hist l) p.header p.header.kind O.id

  -- the owner with this log may take the add as its welcome
  pub record JoinsByPacket (l : Log) (p : Packet) : Type 0 where
    pub fresh : l ≡ []
    pub other : p.header.sender ≢ O.id
    pub adds : p.header.kind ≡ Add O.id
    pub heads : AreHeads p.rows p.header.predecessors
    pub history : IsHistory (p.header ∷ p.rows)
    pub all_valid : AllValid O.rule O.inviter p.rows
    pub valid : MayFollow O.rule O.inviter p.rows p.header
    pub unforked : IsUnforked p.rows p.header
    pub rows_unforked : AreUnforked p.rows

  -- the entry may come next
  abbrev pub MayEnter : Log → LogEntry → Type 0
  MayEnter l (Made p t) = MakesPacket l p t
  MayEnter l (Took p) = TakesPacket l p
  MayEnter l (Joined p) = JoinsByPacket l p

  abbrev pub IsLawfulLog : Log → Type 0
  IsLawfulLog [] = Unit {0}
  IsLawfulLog (e ∷ l) = MayEnter l e × IsLawfulLog l
