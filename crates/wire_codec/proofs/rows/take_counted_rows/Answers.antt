use Rattle.std.specs.Int.{w16}
use Rattle.std.proofs.lemmas.Result.{err_from_is_err_and}
use Rattle.group_fields.specs.Layouts.{number}
use Rattle.group_fields.proofs.Shifts.{count_fault, counted_fault, counted_value}
use Rattle.wire_codec.specs.Packets.{row}
use Rattle.wire_codec.specs.Repeated.{repeated}
use Rattle.wire_codec.proofs.rows.take_counted_rows.Goals as goal

pub returns-in_err-count : goal.returns-in_err-count
returns-in_err-count c =
    let p = err_from_is_err_and c.from_residual.result c.from_residual.ensures.1 in
    rw (p.1, p.2) (count_fault (λ rows. rows) (number w16 0 4095) (λ n. repeated n row) c.in_err-count.ensures.takes)

pub returns-in_err-rows : goal.returns-in_err-rows
returns-in_err-rows c =
    let p = err_from_is_err_and c.from_residual-in_err-rows.result c.from_residual-in_err-rows.ensures.1 in
    rw (p.1, p.2) (counted_fault (λ rows. rows) (number w16 0 4095) (λ n. repeated n row) c.in_ok-count.count c.in_ok-count.ensures.takes c.in_err-rows.ensures.takes)

pub returns : goal.returns
returns c =
    counted_value (λ rows. rows) (number w16 0 4095) (λ n. repeated n row) c.in_ok-count.count c.in_ok-rows.rows c.in_ok-count.ensures.takes c.in_ok-rows.ensures.takes c.in_ok-rows.ensures.count
