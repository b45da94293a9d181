use Rattle.group_model.proofs.Outsider.{with_rows}
use Rattle.group_model.proofs.example.rows_of_an_outsider.Goals as goal

pub returns : goal.returns
returns c = with_rows
