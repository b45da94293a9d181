use Rattle.std.proofs.Common.{sym, ◌∙◌, ap}
use Rattle.group_model.specs.Messages.{Message}
use Rattle.group_model.proofs.Numbers.{number-in, number-one}
use Rattle.group_messages.specs.Messages.{message_of}
use Rattle.causal_history.specs.Rows.{history_of}
use Rattle.causal_cast.proofs.sending.row_with.Goals as goal

-- the number is the row's
pub returns-in-Some : goal.returns-in-Some
returns-in-Some c =
    let h = history_of c.args.history.now in
    let found = c.in-Some.ensures.number in
    let same = number-one h c.in-Some.at found.by (message_of c.row.result) found.number c.row.ensures.message in (
      number-in h c.in-Some.at (message_of c.row.result) c.row.ensures.message,
      sym (ap (λ (m : Message). m.id) same) ∙ found.has_id,
    )
