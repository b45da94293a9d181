use Rattle.std.proofs.lemmas.Result.{err_from_is_err_and}
use Rattle.group_fields.specs.Headers.{header}
use Rattle.group_fields.proofs.WholeReads.{whole_end}
use Rattle.group_fields.proofs.header_view.read_whole_header.Goals as goal

pub returns-in_err-end : goal.returns-in_err-end
returns-in_err-end c =
    let p = err_from_is_err_and c.from_residual-in_err-end.result c.from_residual-in_err-end.ensures.1 in
    rw (p.1, p.2) (whole_end header c.args.bytes.now c.new-cursor.result c.take_header.new.cursor c.in_ok-header.header _ c.new-cursor.ensures c.in_ok-header.ensures.takes.gives c.in_err-end.ensures)

pub returns : goal.returns
returns c =
    whole_end header c.args.bytes.now c.new-cursor.result c.take_header.new.cursor c.in_ok-header.header _ c.new-cursor.ensures c.in_ok-header.ensures.takes.gives c.in_ok-end.ensures
