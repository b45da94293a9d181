use Rattle.std.proofs.lemmas.Result.{on_ok_weaker}
use Rattle.welcome_history.proofs.HandedOn.{row_appended}
use Rattle.welcome_history.proofs.writing.append_row.Goals as goal

pub returns : goal.returns
returns c =
    on_ok_weaker c.append_bytes.result
    (λ all. row_appended c.args.header.now c.bytes-bytes.result.now c.args.into.now.items c.append_u16.new.bytes.items c.append_bytes.new.bytes.items
    c.bytes-bytes.ensures.spells c.bytes-bytes.ensures.short c.in_ok-append_u16.ensures.appends all)
    c.append_bytes.ensures.appends
