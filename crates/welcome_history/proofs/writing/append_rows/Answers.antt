use Rattle.std.proofs.Common.{arith}
use Rattle.std.proofs.lemmas.Result.{on_ok_weaker}
use Rattle.welcome_history.proofs.HandedOn.{rows_counted}
use Rattle.welcome_history.proofs.writing.append_rows.Goals as goal

pub returns : goal.returns
returns c =
    on_ok_weaker c.append_each_row.result
    (λ all. rows_counted c.args.history.now c.count.result c.args.into.now.items c.append_u16.new.bytes.items c.append_each_row.new.into.items
    c.count.ensures.count (omega (arith, c.count.ensures.count, c.requires)) c.in_ok-append_u16.ensures.appends all)
    c.append_each_row.ensures
