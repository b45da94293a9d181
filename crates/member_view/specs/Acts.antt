-- Acts, as the code has them, as kinds of the model.
use Rattle.group_model.specs.Messages.{Kind, Create, Update, Remove, Add, Ack, AddAck, Text}
use Rattle.group_messages.specs.Messages.{ids_of}
use Rattle.member_view.specs.declared.act.Act.{Act}
use Rattle.member_view.specs.declared.act.Act.TheVariants as acts

abbrev pub act_kind : Act → Kind
act_kind (acts.Create ids) = Create (ids_of ids)
act_kind acts.Update = Update
act_kind (acts.Remove id) = Remove id.0.0
act_kind (acts.Add id) = Add id.0.0
act_kind (acts.Ack id took) = Ack id.0.0 took
act_kind (acts.AddAck id) = AddAck id.0.0
act_kind acts.Text = Text
