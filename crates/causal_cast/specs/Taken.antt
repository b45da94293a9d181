-- A packet that may be taken, as a log's owner sees it.
use Rattle.std.specs.Prelude.{◌≡◌, map}
use Rattle.group_messages.specs.Messages.{message_of}
use Rattle.group_model.specs.Sets.{Id}
use Rattle.group_model.specs.Messages.{Add}
use Rattle.group_model.specs.Packets as model
use Rattle.group_model.specs.Settings.{Owner}
use Rattle.group_model.specs.Logs.{Log, hist}
use Rattle.causal_history.specs.Rows.{history_of}
use Rattle.wire_codec.specs.Packets.{Packet}
use Rattle.causal_cast.specs.Judging.{Judging, inviter_by, receivers}

-- The owner of a log is the member that judges, by the same rule; the log has its history; the model's packet has the
-- packet's message, and parts for the same ids; and what cards say of the inviter of whom an add names is what the
-- packet's card says.
pub record IsSeenBy (J : Judging) (packet : Packet) (O : Owner) (l : Log) (p : model.Packet) : Type 0 where
  pub rule : O.rule ≡ J.rule
  pub id : O.id ≡ J.me
  pub history : hist l ≡ history_of J.rows
  pub header : p.header ≡ message_of packet.header
  pub parts : map (λ a. a.to) p.parts ≡ receivers packet.parts
  pub inviter : (y : Id) → (message_of packet.header).kind ≡ Add y
      → O.inviter y ≡ inviter_by J.is_public packet.cards y
