use Rattle.std.specs.Int.{w8}
use Rattle.std.specs.Prelude.{None}
use Rattle.std.proofs.lemmas.Result.{err_from_is_err_and}
use Rattle.group_fields.specs.Layouts.{number}
use Rattle.group_fields.proofs.Shifts.{count_fault, counted_fault, counted_value}
use Rattle.wire_codec.specs.Packets.{parts_above}
use Rattle.wire_codec.proofs.parts.take_parts.Goals as goal

pub returns-in_err-count : goal.returns-in_err-count
returns-in_err-count c =
    let p = err_from_is_err_and c.from_residual.result c.from_residual.ensures.1 in
    rw (p.1, p.2) (count_fault (λ parts. parts) (number w8 0 c.args.greatest) (λ n. parts_above c.args.set n None) c.in_err-count.ensures.takes)

pub returns-in_err-parts : goal.returns-in_err-parts
returns-in_err-parts c =
    let p = err_from_is_err_and c.from_residual-in_err-parts.result c.from_residual-in_err-parts.ensures.1 in
    rw (p.1, p.2) (counted_fault (λ parts. parts) (number w8 0 c.args.greatest) (λ n. parts_above c.args.set n None) c.in_ok-count.count c.in_ok-count.ensures.takes c.in_err-parts.ensures.takes)

pub returns : goal.returns
returns c =
    counted_value (λ parts. parts) (number w8 0 c.args.greatest) (λ n. parts_above c.args.set n None) c.in_ok-count.count c.in_ok-parts.parts c.in_ok-count.ensures.takes c.in_ok-parts.ensures.takes c.in_ok-parts.ensures.count
