use Rattle.std.proofs.Common.{arith}
use Rattle.std.proofs.lemmas.Result.{err_from_is_err_and}
use Rattle.wire_codec.specs.Readings.{addressed_of}
use Rattle.wire_codec.proofs.PartBytes.{parts_more, parts_none, parts_stop}
use Rattle.wire_codec.proofs.parts.+pass_parts.Goals as goal

pub returns-then-count-eq0 : goal.returns-then-count-eq0
returns-then-count-eq0 t c = parts_none c.args.set c.args.count c.args.last c.args.cursor.now (omega arith) c.requires.within

pub returns-in_err-one : goal.returns-in_err-one
returns-in_err-one t c =
    let p = err_from_is_err_and c.from_residual.result c.from_residual.ensures.1 in
    rw (p.1, p.2) (parts_stop addressed_of c.args.set c.args.count c.args.last (omega arith) c.in_err-one.ensures)

pub returns : goal.returns
returns t c =
    parts_more addressed_of c.args.set c.args.count c.args.last (omega arith) c.in_ok-one.one c.pass_parts.result c.in_ok-one.ensures c.pass_parts.ensures
