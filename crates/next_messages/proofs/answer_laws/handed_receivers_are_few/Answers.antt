use Rattle.next_messages.proofs.Forwarded.{handed-few}
use Rattle.next_messages.proofs.answer_laws.handed_receivers_are_few.Goals as goal

pub returns : goal.returns
returns c = handed-few
