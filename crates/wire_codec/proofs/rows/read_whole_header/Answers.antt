use Rattle.std.proofs.lemmas.Result.{err_from_is_err_and}
use Rattle.group_fields.specs.Headers.{header}
use Rattle.group_fields.proofs.LayoutLaws.{whole_within}
use Rattle.group_fields.proofs.WholeReads.{whole_end, whole_stop}
use Rattle.wire_codec.proofs.rows.read_whole_header.Goals as goal

pub returns-in_err-header-clause-within : goal.returns-in_err-header-clause-within
returns-in_err-header-clause-within c =
    let p = err_from_is_err_and c.from_residual.result c.from_residual.ensures.1 in
    let e = whole_stop header c.args.bytes.now c.new-cursor.result c.in_err-header.field-0.0 c.new-cursor.ensures c.in_err-header.ensures.takes.gives in
    rw (p.1, p.2) (whole_within header c.args.bytes.now c.in_err-header.field-0.0 e)

pub returns-in_err-end-clause-exact : goal.returns-in_err-end-clause-exact
returns-in_err-end-clause-exact c =
    let p = err_from_is_err_and c.from_residual-in_err-end.result c.from_residual-in_err-end.ensures.1 in
    rw (p.1, p.2) (whole_end header c.args.bytes.now c.new-cursor.result c.take_header.new.cursor c.in_ok-header.header _ c.new-cursor.ensures c.in_ok-header.ensures.takes.gives c.in_err-end.ensures)

pub returns-in_err-end-clause-within : goal.returns-in_err-end-clause-within
returns-in_err-end-clause-within c =
    let p = err_from_is_err_and c.from_residual-in_err-end.result c.from_residual-in_err-end.ensures.1 in
    let e = whole_end header c.args.bytes.now c.new-cursor.result c.take_header.new.cursor c.in_ok-header.header _ c.new-cursor.ensures c.in_ok-header.ensures.takes.gives c.in_err-end.ensures in
    rw (p.1, p.2) (whole_within header c.args.bytes.now c.in_err-end.field-0.0 e)

pub returns-clause-exact : goal.returns-clause-exact
returns-clause-exact c =
    whole_end header c.args.bytes.now c.new-cursor.result c.take_header.new.cursor c.in_ok-header.header _ c.new-cursor.ensures c.in_ok-header.ensures.takes.gives c.in_ok-end.ensures
