use Rattle.group_model.proofs.forms.addressees_before_the_body.Goals as goal
use Rattle.group_model.proofs.Addressees.{addressees_move}

pub returns : goal.returns
returns c = addressees_move
