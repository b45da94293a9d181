use Rattle.std.proofs.Common.{◌≡◌, ◌∙◌, rules}
use Rattle.group_fields.specs.Headers.{message_id}
use Rattle.group_model.proofs.Numbers.{number-in}
use Rattle.causal_history.specs.Rows.{history_of}
use Rattle.member_commands.proofs.making.write_next.Goals as goal

pub returns-in-Some-clause-refused : goal.returns-in-Some-clause-refused
returns-in-Some-clause-refused c =
    let row = c.in-Some.ensures.number in
    let same : c.id-id.result.0.0 ≡ message_id c.args.header.now = search rules in
    record {
      by = row.by;
      there_is = number-in (history_of c.args.history.now) c.in-Some.field-0 row.by row.number;
      has_id = row.has_id ∙ same;
    }
