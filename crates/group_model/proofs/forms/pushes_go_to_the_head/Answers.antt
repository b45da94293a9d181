use Rattle.group_model.proofs.forms.pushes_go_to_the_head.Goals as goal
use Rattle.group_model.proofs.Numbers.{pushed}

pub returns : goal.returns
returns c = pushed
