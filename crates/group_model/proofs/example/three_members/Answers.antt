use Rattle.group_model.proofs.Members.{three}
use Rattle.group_model.proofs.example.three_members.Goals as goal

pub returns : goal.returns
returns c = three
