-- What a member is once it took a packet, before it answers. docs/GROUP.md, "The reference member".
use Rattle.std.specs.Prelude.{◌≡◌, ◌⊎◌, true, List, ◌∷◌}
use Rattle.kem_trait.specs.declared.kem.Kem.{Ghosts}
use Rattle.group_model.specs.Sets.{Id}
use Rattle.group_model.specs.Messages.{Add, Message, History, IsHistory}
use Rattle.group_model.specs.Membership.{IsSeeded}
use Rattle.group_model.specs.Settings.{Owner}
use Rattle.group_model.specs.Logs.{LogEntry, hist}
use Rattle.group_model.specs.LawfulLogs.{IsLawfulLog, MayEnter}
use Rattle.group_messages.specs.Messages.{message_of}
use Rattle.member_book.specs.Standing.{MayStill}
use Rattle.wire_codec.specs.Packets.{Packet as ReadPacket}
use Rattle.reference_member.specs.Members.{IsOwner, Member, known, own_id}
use Rattle.reference_member.specs.Accepted.{known_before, part_opens, with_taken}

module _ {K P : Type 0} (kem : Ghosts K P) (rule : History → List Id) (M : Member) (packet : ReadPacket) where
  -- the member with the packet taken, and the packet's message
  abbrev pub after : Member
  after = with_taken kem packet M

  abbrev pub taken : Message
  taken = message_of packet.header

  -- The owner of the longer log owned the one before, and the entry may come next in it. Where the part of an operation
  -- that the member acknowledges opened, the ack may take its secret.
  pub record OwnsTaken (O : Owner) : Type 0 where
    pub before : IsOwner kem rule M O
    pub entry : LogEntry
    pub log : after.log ≡ entry ∷ M.log
    pub may : MayEnter O M.log entry
    pub lawful : IsLawfulLog O after.log
    pub acks : part_opens kem packet M ≡ true → (IsSeeded taken.kind ⊎ (taken.kind ≡ Add (own_id kem M)))
        → MayStill O.rule (hist after.log) taken.id O.id

  -- The member took the packet of another.
  pub record EntersTaken : Type 0 where
    pub agrees : hist after.log ≡ known after
    pub newest : known after ≡ taken ∷ known_before kem packet M
    pub history : IsHistory (known after)
    pub owners : (O : Owner) → IsOwner kem rule after O → OwnsTaken O
