use Rattle.causal_history.proofs.LawFacts.{past-history_of}
use Rattle.causal_history.proofs.RowFacts.{history-length, history-none, history-push, number-row, row-number}
use Rattle.causal_history.proofs.laws.rows_are_messages.Goals as goal

pub returns : goal.returns
returns c = record {
  pushed = history-push;
  none = history-none;
  size = history-length;
  number = row-number;
  row = λ rows i m n. let r = number-row rows i m n in (r.row, r.at, r.is);
  past = past-history_of;
}
