use Rattle.welcome_history.proofs.ReadyRows.{ready-readable}
use Rattle.welcome_history.proofs.laws.what_is_ready_may_be_read.Goals as goal

pub returns : goal.returns
returns c = ready-readable
