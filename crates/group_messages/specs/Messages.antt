-- Headers as messages of the model. docs/GROUP.md, "Messages and histories".
use Rattle.std.specs.Prelude.{◌≡◌, ◌≢◌, ℕ, Bool, false, List, [], map}
use Rattle.sha2.specs.Sha256.{sha256}
use Rattle.group_fields.specs.Headers.{message_id}
use Rattle.group_fields.specs.declared.header.Header.{Header}
use Rattle.group_fields.specs.declared.header.Kind.{Kind as HeaderKind}
use Rattle.group_fields.specs.declared.header.Kind.TheVariants as kinds
use Rattle.group_fields.specs.declared.header.Target.{Target}
use Rattle.group_fields.specs.declared.header.Target.TheVariants as targets
use Rattle.group_fields.specs.declared.ids.Digest.{Digest}
use Rattle.group_model.specs.Sets.{Id}
use Rattle.group_model.specs.Messages.{Kind, Create, Update, Remove, Add, Ack, AddAck, Text, Message}

-- digests as ids of the model
abbrev pub ids_of : List Digest → List Id
ids_of ids = map (λ (id : Digest). id.0) ids

-- ---- what a target has; only a target that suits the kind is asked

abbrev pub members_in : Target → List Id
members_in (targets.Members ids) = ids_of ids
members_in targets.Nothing = []
members_in (targets.Member id) = []
members_in (targets.Answer id took) = []

abbrev pub member_in : Target → Id
member_in (targets.Members ids) = []
member_in targets.Nothing = []
member_in (targets.Member id) = id.0.0
member_in (targets.Answer id took) = []

abbrev pub operation_in : Target → Id
operation_in (targets.Members ids) = []
operation_in targets.Nothing = []
operation_in (targets.Member id) = []
operation_in (targets.Answer id took) = id.0.0

abbrev pub took_in : Target → Bool
took_in (targets.Members ids) = false
took_in targets.Nothing = false
took_in (targets.Member id) = false
took_in (targets.Answer id took) = took

-- what a message does, by the kind and the target of its header
abbrev pub kind_by : HeaderKind → Target → Kind
kind_by kinds.Create target = Create (members_in target)
kind_by kinds.Update target = Update
kind_by kinds.Remove target = Remove (member_in target)
kind_by kinds.Add target = Add (member_in target)
kind_by kinds.Ack target = Ack (operation_in target) (took_in target)
kind_by kinds.AddAck target = AddAck (operation_in target)
kind_by kinds.Text target = Text

abbrev pub kind_of : Header → Kind
kind_of header = kind_by header.kind header.target

-- the kind without what it is about
abbrev pub header_kind : Kind → HeaderKind
header_kind (Create members) = kinds.Create
header_kind Update = kinds.Update
header_kind (Remove y) = kinds.Remove
header_kind (Add y) = kinds.Add
header_kind (Ack o took) = kinds.Ack
header_kind (AddAck o) = kinds.AddAck
header_kind Text = kinds.Text

-- the message of a header
abbrev pub message_of : Header → Message
message_of header = record {
  id = message_id header;
  set = header.set;
  group = header.group.0.0;
  sender = header.sender.0.0;
  seq = header.seq;
  kind = kind_of header;
  predecessors = ids_of header.predecessors;
  body = header.body.0;
}

-- two byte strings that differ and have one digest
pub record IsCollision (a b : List ℕ) : Type 0 where
  pub differ : a ≢ b
  pub one_digest : sha256 a ≡ sha256 b
