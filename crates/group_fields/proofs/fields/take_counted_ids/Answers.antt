use Rattle.std.specs.Int.{w8}
use Rattle.std.proofs.lemmas.Result.{err_from_is_err_and}
use Rattle.group_fields.specs.Layouts.{ids_above, number}
use Rattle.std.specs.Prelude.{None}
use Rattle.group_fields.proofs.HeaderBytes.{counted_few}
use Rattle.group_fields.specs.LayoutReads.{found, left}
use Rattle.group_fields.proofs.Shifts.{count_fault, counted_fault, counted_value}
use Rattle.group_fields.proofs.fields.take_counted_ids.Goals as goal

pub returns-in_err-count-clause-takes : goal.returns-in_err-count-clause-takes
returns-in_err-count-clause-takes c =
    let p = err_from_is_err_and c.from_residual.result c.from_residual.ensures.1 in
    rw (p.1, p.2) (count_fault (λ ids. ids) (number w8 c.args.least c.args.greatest) (λ n. ids_above n None) c.in_err-count.ensures.takes)

pub returns-in_err-ids-clause-takes : goal.returns-in_err-ids-clause-takes
returns-in_err-ids-clause-takes c =
    let p = err_from_is_err_and c.from_residual-in_err-ids.result c.from_residual-in_err-ids.ensures.1 in
    rw (p.1, p.2) (counted_fault (λ ids. ids) (number w8 c.args.least c.args.greatest) (λ n. ids_above n None) c.in_ok-count.count c.in_ok-count.ensures.takes c.in_err-ids.ensures.takes)

pub returns-clause-takes : goal.returns-clause-takes
returns-clause-takes c =
    counted_value (λ ids. ids) (number w8 c.args.least c.args.greatest) (λ n. ids_above n None) c.in_ok-count.count c.in_ok-ids.ids c.in_ok-count.ensures.takes c.in_ok-ids.ensures.takes c.in_ok-ids.ensures.count

pub returns-clause-few : goal.returns-clause-few
returns-clause-few c =
    let ids = c.in_ok-ids.ids in
    let new = c.take_ids.new.cursor in
    let takes = counted_value (λ ids. ids) (number w8 c.args.least c.args.greatest) (λ n. ids_above n None) c.in_ok-count.count ids c.in_ok-count.ensures.takes c.in_ok-ids.ensures.takes c.in_ok-ids.ensures.count in
    counted_few c.args.least c.args.greatest c.args.cursor.now.place (left c.args.cursor.now) (found ids new.place (left new)) takes.gives
