use Rattle.std.proofs.Common.{IsTrue, ◌↔◌, ◌≡◌}
use Rattle.causal_history.specs.Rows.{history_of}
use Rattle.group_messages.specs.Messages.{message_of, kind_of}
use Rattle.group_model.specs.Messages.{Message, Add}
use Rattle.member_view.proofs.Oldest.{at-number}
use Rattle.member_view.proofs.Waits.{adds-same}
use Rattle.member_view.proofs.waiting.adds.Goals as goal

pub returns-in-Add : goal.returns-in-Add
returns-in-Add c = λ m r. at-number (history_of c.args.history.now) c.args.index (message_of c.row.result) m c.row.ensures.message r
    (λ (z : Message). IsTrue c.is_same.result ↔ (z.kind ≡ Add c.args.id.now.0.0))
    (adds-same c.in-Add.target.0.0 c.args.id.now.0.0 (kind_of c.row.result) c.is_same.result c.in-Add.ensures c.is_same.ensures)
