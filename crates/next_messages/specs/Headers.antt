-- The header of the message that a member makes next. docs/GROUP.md, "The reference member".
use Rattle.std.specs.Prelude.{◌≡◌, ℕ, ◌+◌, List, [], codes}
use Rattle.std.specs.Option.{option_map_or}
use Rattle.kem_trait.specs.declared.kem.Kem.{Ghosts}
use Rattle.hkdf_seal.specs.Keys.{kdf}
use Rattle.group_fields.specs.Headers.{HasSpelling}
use Rattle.group_fields.specs.declared.header.Header.{Header}
use Rattle.group_fields.specs.declared.header.Kind.{Kind}
use Rattle.group_fields.specs.declared.header.Target.{Target}
use Rattle.group_model.specs.Sets.{Bytes, Id}
use Rattle.group_model.specs.Messages.{History, AreHeads}
use Rattle.group_model.specs.Packets.{Given}
use Rattle.group_model.specs.Validity.{count_of}
use Rattle.group_messages.specs.Messages.{ids_of}
use Rattle.causal_history.specs.Rows.{Row, history_of}
use Rattle.causal_cast.specs.Judging.{group_of}
use Rattle.reference_member.specs.Members.{Member, known, made_count, own_id}
use Rattle.reference_member.specs.Messages.{group_next}

-- the group of the rows, and else a new one, by random bytes
abbrev pub group_by : List Row → (random : Bytes) → Id
group_by rows random = option_map_or (λ (group : Id). group) (group_of rows) (kdf random (codes "group") [])

-- The header is that of the next message of the member with this id, of a set, behind these rows, whatever body it has.
pub record IsNextHeader (key_set : ℕ) (rows : List Row) (me : Id) (random : Bytes) (kind : Kind) (target : Target)
    (header : Header) : Type 0 where
  pub set : header.set ≡ key_set
  pub group : header.group.0.0 ≡ group_by rows random
  pub sender : header.sender.0.0 ≡ me
  pub seq : header.seq ≡ count_of me (history_of rows) + 1
  pub kind_is : header.kind ≡ kind
  pub target_is : header.target ≡ target
  -- it goes on from all rows
  pub predecessors : AreHeads (history_of rows) (ids_of header.predecessors)
  pub spelled : HasSpelling header

module _ {K P : Type 0} (kem : Ghosts K P) (rule : History → List Id) (M : Member) (t : Given) where
  -- what the reference member asks of the header of its next message, but of its body
  pub record HasNextHeader (kind : Kind) (target : Target) (header : Header) : Type 0 where
    pub set : header.set ≡ kem.SET
    pub group : header.group.0.0 ≡ group_next kem rule M t
    pub sender : header.sender.0.0 ≡ own_id kem M
    pub seq : header.seq ≡ made_count kem M + 1
    pub kind_is : header.kind ≡ kind
    pub target_is : header.target ≡ target
    pub predecessors : AreHeads (known M) (ids_of header.predecessors)
