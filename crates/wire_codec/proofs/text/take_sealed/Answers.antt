use Rattle.std.specs.Int.{w16}
use Rattle.std.proofs.lemmas.Result.{err_from_is_err_and}
use Rattle.group_fields.specs.Layouts.{bytes_of, number}
use Rattle.group_fields.proofs.Shifts.{count_fault, counted_fault, counted_value}
use Rattle.wire_codec.proofs.text.take_sealed.Goals as goal

pub returns-in_err-size : goal.returns-in_err-size
returns-in_err-size c =
    let p = err_from_is_err_and c.from_residual.result c.from_residual.ensures.1 in
    rw (p.1, p.2) (count_fault (λ bytes. bytes.now) (number w16 0 4096) bytes_of c.in_err-size.ensures.takes)

pub returns-in_err-bytes : goal.returns-in_err-bytes
returns-in_err-bytes c =
    let p = err_from_is_err_and c.from_residual-in_err-bytes.result c.from_residual-in_err-bytes.ensures.1 in
    rw (p.1, p.2) (counted_fault (λ bytes. bytes.now) (number w16 0 4096) bytes_of c.in_ok-size.size c.in_ok-size.ensures.takes c.in_err-bytes.ensures.takes)

pub returns : goal.returns
returns c =
    counted_value (λ bytes. bytes.now) (number w16 0 4096) bytes_of c.in_ok-size.size c.in_ok-bytes.bytes c.in_ok-size.ensures.takes c.in_ok-bytes.ensures.takes c.in_ok-bytes.ensures.size
