use Rattle.std.proofs.lemmas.Result.{err_from_is_err_and}
use Rattle.group_fields.proofs.WholeReads.{whole_end, whole_stop}
use Rattle.wire_codec.specs.Packets.{packet}
use Rattle.wire_codec.specs.Views.{packet_of}
use Rattle.wire_codec.proofs.packet.read_fields.Goals as goal

pub returns-in_err-fields : goal.returns-in_err-fields
returns-in_err-fields c =
    let p = err_from_is_err_and c.from_residual.result c.from_residual.ensures.1 in
    rw (p.1, p.2) (whole_stop packet c.args.bytes.now c.new-cursor.result c.in_err-fields.field-0.0 c.new-cursor.ensures c.in_err-fields.ensures.gives)

pub returns-in_err-end : goal.returns-in_err-end
returns-in_err-end c =
    let p = err_from_is_err_and c.from_residual-in_err-end.result c.from_residual-in_err-end.ensures.1 in
    rw (p.1, p.2) (whole_end packet c.args.bytes.now c.new-cursor.result c.take_fields.new.cursor (packet_of c.in_ok-fields.fields) _ c.new-cursor.ensures c.in_ok-fields.ensures.gives c.in_err-end.ensures)

pub returns : goal.returns
returns c =
    whole_end packet c.args.bytes.now c.new-cursor.result c.take_fields.new.cursor (packet_of c.in_ok-fields.fields) _ c.new-cursor.ensures c.in_ok-fields.ensures.gives c.in_ok-end.ensures
