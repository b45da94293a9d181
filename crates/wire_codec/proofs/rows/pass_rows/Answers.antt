use Rattle.std.proofs.Common.{arith}
use Rattle.std.proofs.lemmas.Result.{err_from_is_err_and}
use Rattle.wire_codec.specs.Packets.{row}
use Rattle.wire_codec.proofs.Walks.{passing_all, passing_more, passing_none, passing_stop}
use Rattle.wire_codec.proofs.rows.pass_rows.Goals as goal

pub loop-init : goal.loop-init
loop-init c = passing_none row c.args.count c.args.cursor.now c.requires.within

pub returns-in_err-take_row : goal.returns-in_err-take_row
returns-in_err-take_row c =
    let p = err_from_is_err_and c.from_residual.result c.from_residual.ensures.1 in
    rw (p.1, p.2) (passing_stop (λ header. header) row c.args.count c.loop.counter (omega arith) c.loop.invariant c.in_err-take_row.ensures)

pub loop-preserved : goal.loop-preserved
loop-preserved c =
    passing_more (λ header. header) row c.args.count c.loop.counter (omega arith) c.in_ok-take_row.field-0 c.loop.invariant c.in_ok-take_row.ensures

pub returns : goal.returns
returns c = passing_all row c.args.count c.loop.counter c.args.cursor.now c.loop.cursor (omega arith) c.loop.invariant
