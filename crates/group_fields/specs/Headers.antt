-- Headers: their format, and which headers have a spelling.
use Rattle.std.proofs.Common.{◌≡◌, ℕ, ◌≤◌, IsTrue, Bool, true, ◌||◌, ◌==◌, if◌then◌else◌, List, [], ◌∷◌, length}
use Rattle.std.proofs.Common.{Option, Some, None, refl}
use Rattle.std.specs.Int.{w8, w32}
use Rattle.sha2.specs.Sha256.{sha256}
use Rattle.group_fields.specs.Fields.{is_between, numbered}
use Rattle.group_fields.specs.LayoutWrites.{ascends}
use Rattle.group_fields.specs.Layouts as layouts
use Rattle.group_fields.specs.Layouts.{Layout, field, shaped, renamed, counted_ids, digest, known, number, written}
use Rattle.group_fields.specs.Layouts.{◌>>=◌}
use Rattle.group_fields.specs.declared.fault.FieldFault.{FieldFault}
use Rattle.group_fields.specs.declared.header.Header.{Header}
use Rattle.group_fields.specs.declared.header.Kind.{Kind}
use Rattle.group_fields.specs.declared.header.Kind.TheVariants as kinds
use Rattle.group_fields.specs.declared.header.Target.{Target}
use Rattle.group_fields.specs.declared.header.Target.TheVariants as targets
use Rattle.group_fields.specs.declared.ids.Digest.{Digest}

-- the number of a kind
abbrev pub kind_number : Kind → ℕ
kind_number kinds.Create = 1
kind_number kinds.Update = 2
kind_number kinds.Remove = 3
kind_number kinds.Add = 4
kind_number kinds.Ack = 5
kind_number kinds.AddAck = 6
kind_number kinds.Text = 7

-- the kind of a number from 1 to 7
abbrev pub kind_of : ℕ → Kind
kind_of n =
    if n == 1 then kinds.Create
    else (if n == 2 then kinds.Update
    else (if n == 3 then kinds.Remove
    else (if n == 4 then kinds.Add
    else (if n == 5 then kinds.Ack
    else (if n == 6 then kinds.AddAck
    else kinds.Text)))))

-- a kind, as its number
unfoldable pub kind : Layout Kind
kind = field (numbered w8 (is_between 1 7) kind_of kind_number)

abbrev pub flag_number : Bool → ℕ
flag_number took = if took then 1 else 0

-- whether a member took the operation that it acknowledges: 1 where it did, 0 where it did not
unfoldable pub took_flag : Layout Bool
took_flag = field (numbered w8 (is_between 0 1) (λ n. n == 1) flag_number)

-- ---- what a message of a kind is about

abbrev members_of : Target → Option (List Digest)
members_of (targets.Members ids) = Some ids
members_of targets.Nothing = None
members_of (targets.Member id) = None
members_of (targets.Answer id took) = None

abbrev member_of : Target → Option Digest
member_of (targets.Members ids) = None
member_of targets.Nothing = None
member_of (targets.Member id) = Some id.0
member_of (targets.Answer id took) = None

abbrev answer_of : Target → Option (Digest × Bool)
answer_of (targets.Members ids) = None
answer_of targets.Nothing = None
answer_of (targets.Member id) = None
answer_of (targets.Answer id took) = Some (id.0, took)

abbrev answered_of : Target → Option Digest
answered_of (targets.Members ids) = None
answered_of targets.Nothing = None
answered_of (targets.Member id) = None
answered_of (targets.Answer id took) = Some id.0

-- the members of a new group
unfoldable pub members : Layout Target
members = shaped (counted_ids 1 32) (renamed targets.Members members_of (λ ids. refl))

-- one member
unfoldable pub member : Layout Target
member = shaped digest (renamed (λ id. targets.Member (record { 0 = id })) member_of (λ id. refl))

-- the message that is acknowledged, and whether its operation was taken
unfoldable pub answer : Layout Target
answer =
    shaped (do
      id ← digest
      took_flag)
    (renamed (λ (id, took). targets.Answer (record { 0 = id }) took) answer_of (λ both. refl))

-- the message that is acknowledged, whose operation was taken
unfoldable pub taken_answer : Layout Target
taken_answer = shaped digest (renamed (λ id. targets.Answer (record { 0 = id }) true) answered_of (λ id. refl))

-- what a message of a kind is about
abbrev pub target : Kind → Layout Target
target kinds.Create = members
target kinds.Update = layouts.value targets.Nothing
target kinds.Remove = member
target kinds.Add = member
target kinds.Ack = answer
target kinds.AddAck = taken_answer
target kinds.Text = layouts.value targets.Nothing

-- ---- headers

-- tag, version, set, group, sender, sequence number, kind, target, predecessors, digest of the body
unfoldable pub header : Layout Header
header = shaped (do
  tag ← known (0x48 ∷ [])
  version ← known (1 ∷ [])
  set ← number w8 1 2
  group ← digest
  sender ← digest
  seq ← number w32 1 0xffff_ffff
  of_kind ← kind
  about ← target of_kind
  predecessors ← counted_ids 0 32
  digest)
    (renamed
    (λ (tag, (version, (set, (group, (sender, (seq, (of_kind, (about, (predecessors, body))))))))).
    record {
      set = set;
      group = record { 0 = group };
      sender = record { 0 = sender };
      seq = seq;
      kind = of_kind;
      target = about;
      predecessors = predecessors;
      body = body;
    })
    (λ h. Some (tt, (tt, (h.set, (h.group.0, (h.sender.0, (h.seq, (h.kind, (h.target, (h.predecessors, h.body))))))))))
    (λ fields. refl))

-- Bytes spell a header.
abbrev pub Spells : Header → List ℕ → Type 0
Spells value bytes = layouts.Spells header bytes value

-- The least fault of bytes as a header.
abbrev pub IsHeaderFault : List ℕ → FieldFault → Type 0
IsHeaderFault bytes fault = layouts.IsLeastFault header bytes fault

-- the spelling of a header
unfoldable pub spelling : Header → List ℕ
spelling value = written header value

-- a message's id: the digest of the bytes of its header
unfoldable pub message_id : Header → List ℕ
message_id value = sha256 (spelling value)

-- so many ids as a count may tell, each above the one before it
pub record AreCounted (least greatest : ℕ) (ids : List Digest) : Type 0 where
  pub enough : least ≤ length ids
  pub few : length ids ≤ greatest
  pub ascending : ascends None ids ≡ true

-- The target is one that a message of the kind may have.
abbrev pub SuitsKind : Kind → Target → Type 0
SuitsKind kinds.Create (targets.Members ids) = AreCounted 1 32 ids
SuitsKind kinds.Update targets.Nothing = Unit {0}
SuitsKind kinds.Remove (targets.Member id) = Unit {0}
SuitsKind kinds.Add (targets.Member id) = Unit {0}
SuitsKind kinds.Ack (targets.Answer id took) = Unit {0}
SuitsKind kinds.AddAck (targets.Answer id took) = took ≡ true
SuitsKind kinds.Text targets.Nothing = Unit {0}
SuitsKind _ _ = ⊥

-- the headers that have a spelling
pub record HasSpelling (value : Header) : Type 0 where
  pub set : IsTrue ((value.set == 1) || (value.set == 2))
  pub seq : 1 ≤ value.seq
  pub target : SuitsKind value.kind value.target
  pub predecessors : AreCounted 0 32 value.predecessors
