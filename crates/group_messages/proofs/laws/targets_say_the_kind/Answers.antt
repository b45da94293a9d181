use Rattle.group_messages.proofs.HeaderFacts.{header_kind-kind_by, create_says, update_says, remove_says, add_says}
use Rattle.group_messages.proofs.HeaderFacts.{ack_says, add_ack_says, text_says}
use Rattle.group_messages.proofs.laws.targets_say_the_kind.Goals as goal

pub returns : goal.returns
returns c = record {
  kind = λ h. header_kind-kind_by h.kind h.target;
  create = create_says;
  update = update_says;
  remove = remove_says;
  add = add_says;
  ack = ack_says;
  add_ack = add_ack_says;
  text = text_says;
}
