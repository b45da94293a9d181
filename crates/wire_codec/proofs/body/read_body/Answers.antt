use Rattle.std.proofs.lemmas.Result.{err_from_is_err_and}
use Rattle.group_fields.proofs.LayoutLaws.{whole_within}
use Rattle.group_fields.proofs.WholeReads.{whole_end, whole_stop}
use Rattle.wire_codec.specs.Packets.{body}
use Rattle.wire_codec.specs.Views.{body_seen}
use Rattle.wire_codec.proofs.body.read_body.Goals as goal

pub returns-in_err-body-clause-exact : goal.returns-in_err-body-clause-exact
returns-in_err-body-clause-exact c =
    let p = err_from_is_err_and c.from_residual.result c.from_residual.ensures.1 in
    let layout = body c.args.header.now.set c.args.header.now.kind c.args.header.now.target in
    rw (p.1, p.2) (whole_stop layout c.args.bytes.now c.new-cursor.result c.in_err-body.field-0.0 c.new-cursor.ensures c.in_err-body.ensures.gives)

pub returns-in_err-body-clause-within : goal.returns-in_err-body-clause-within
returns-in_err-body-clause-within c =
    let p = err_from_is_err_and c.from_residual.result c.from_residual.ensures.1 in
    let layout = body c.args.header.now.set c.args.header.now.kind c.args.header.now.target in
    let e = whole_stop layout c.args.bytes.now c.new-cursor.result c.in_err-body.field-0.0 c.new-cursor.ensures c.in_err-body.ensures.gives in
    rw (p.1, p.2) (whole_within layout c.args.bytes.now c.in_err-body.field-0.0 e)

pub returns-in_err-end-clause-exact : goal.returns-in_err-end-clause-exact
returns-in_err-end-clause-exact c =
    let p = err_from_is_err_and c.from_residual-in_err-end.result c.from_residual-in_err-end.ensures.1 in
    let layout = body c.args.header.now.set c.args.header.now.kind c.args.header.now.target in
    rw (p.1, p.2) (whole_end layout c.args.bytes.now c.new-cursor.result c.take_body.new.cursor (body_seen c.in_ok-body.body) _ c.new-cursor.ensures c.in_ok-body.ensures.gives c.in_err-end.ensures)

pub returns-in_err-end-clause-within : goal.returns-in_err-end-clause-within
returns-in_err-end-clause-within c =
    let p = err_from_is_err_and c.from_residual-in_err-end.result c.from_residual-in_err-end.ensures.1 in
    let layout = body c.args.header.now.set c.args.header.now.kind c.args.header.now.target in
    let e = whole_end layout c.args.bytes.now c.new-cursor.result c.take_body.new.cursor (body_seen c.in_ok-body.body) _ c.new-cursor.ensures c.in_ok-body.ensures.gives c.in_err-end.ensures in
    rw (p.1, p.2) (whole_within layout c.args.bytes.now c.in_err-end.field-0.0 e)

pub returns-clause-exact : goal.returns-clause-exact
returns-clause-exact c =
    let layout = body c.args.header.now.set c.args.header.now.kind c.args.header.now.target in
    whole_end layout c.args.bytes.now c.new-cursor.result c.take_body.new.cursor (body_seen c.in_ok-body.body) _ c.new-cursor.ensures c.in_ok-body.ensures.gives c.in_ok-end.ensures
