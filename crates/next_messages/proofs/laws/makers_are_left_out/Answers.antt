use Rattle.next_messages.proofs.Addressed.{maker-left_out}
use Rattle.next_messages.proofs.laws.makers_are_left_out.Goals as goal

pub returns : goal.returns
returns c = maker-left_out
