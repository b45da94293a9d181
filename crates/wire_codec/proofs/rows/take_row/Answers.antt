use Rattle.std.proofs.Common.{◌∙◌, ap, refl, true, ℕ}
use Rattle.std.specs.Int.{w16}
use Rattle.std.proofs.lemmas.Result.{err_from_is_err_and}
use Rattle.group_fields.specs.Headers.{header}
use Rattle.group_fields.specs.LayoutReads.{shift_fault}
use Rattle.group_fields.specs.Layouts.{number}
use Rattle.group_fields.proofs.Shifts.{size_fault, sized_fault, sized_short, sized_value}
use Rattle.wire_codec.specs.Packets.{row}
use Rattle.wire_codec.proofs.rows.take_row.Goals as goal

pub returns-in_err-size : goal.returns-in_err-size
unfolding row
returns-in_err-size c =
    let p = err_from_is_err_and c.from_residual.result c.from_residual.ensures.1 in
    rw (p.1, p.2) (size_fault (λ header. header) (number w16 0 0xffff) (λ bytes. true) header c.in_err-size.ensures.takes)

pub returns-in_err-bytes : goal.returns-in_err-bytes
unfolding row
returns-in_err-bytes c =
    let p = err_from_is_err_and c.from_residual-in_err-bytes.result c.from_residual-in_err-bytes.ensures.1 in
    rw (p.1, p.2) (sized_short (λ header. header) (number w16 0 0xffff) (λ bytes. true) header c.in_ok-size.size c.in_ok-size.ensures.takes c.in_err-bytes.ensures.takes)

pub returns-in-Ok : goal.returns-in-Ok
unfolding row
returns-in-Ok c =
    sized_value (λ header. header) (number w16 0 0xffff) (λ bytes. true) header c.in_ok-size.size c.in-Ok.header c.in_ok-size.ensures.takes c.in_ok-bytes.ensures.takes
    refl c.in-Ok.ensures.exact

pub returns-in-Err : goal.returns-in-Err
unfolding row
returns-in-Err c =
    sized_fault (λ header. header) (number w16 0 0xffff) (λ bytes. true) header c.in_ok-size.size c.in_ok-size.ensures.takes c.in_ok-bytes.ensures.takes
    refl c.in-Err.ensures.exact (c.fault_behind.ensures ∙ ap (λ (p : ℕ). shift_fault p c.in-Err.fault) c.place-place.ensures.place)
