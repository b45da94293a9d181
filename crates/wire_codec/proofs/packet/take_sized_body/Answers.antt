use Rattle.std.proofs.Common.{◌∙◌, ap, ℕ}
use Rattle.std.specs.Int.{w32}
use Rattle.std.proofs.lemmas.Result.{err_from_is_err_and}
use Rattle.group_fields.specs.LayoutReads.{shift_fault}
use Rattle.group_fields.specs.Layouts.{number}
use Rattle.group_fields.proofs.Shifts.{size_fault, sized_fault, sized_refused, sized_short, sized_value}
use Rattle.wire_codec.specs.Packets.{body, is_body_of}
use Rattle.wire_codec.specs.Views.{body_seen}
use Rattle.wire_codec.proofs.packet.take_sized_body.Goals as goal

pub returns-in_err-size : goal.returns-in_err-size
returns-in_err-size c =
    let p = err_from_is_err_and c.from_residual.result c.from_residual.ensures.1 in
    let header = c.args.header.now in
    rw (p.1, p.2) (size_fault body_seen (number w32 0 0xffff_ffff) (is_body_of header) (body header.set header.kind header.target) c.in_err-size.ensures.takes)

pub returns-in_err-bytes : goal.returns-in_err-bytes
returns-in_err-bytes c =
    let p = err_from_is_err_and c.from_residual-in_err-bytes.result c.from_residual-in_err-bytes.ensures.1 in
    let header = c.args.header.now in
    rw (p.1, p.2) (sized_short body_seen (number w32 0 0xffff_ffff) (is_body_of header) (body header.set header.kind header.target) c.in_ok-size.size
    c.in_ok-size.ensures.takes c.in_err-bytes.ensures.takes)

pub returns-then-not-has_digest : goal.returns-then-not-has_digest
returns-then-not-has_digest c =
    let header = c.args.header.now in
    sized_refused body_seen (number w32 0 0xffff_ffff) (is_body_of header) (body header.set header.kind header.target) c.in_ok-size.size
    c.in_ok-size.ensures.takes c.in_ok-bytes.ensures.takes
    (let e = c.has_digest.ensures in let t = c.if-not-has_digest.true in cc)
    c.place-place.ensures.place

pub returns-in-Ok : goal.returns-in-Ok
returns-in-Ok c =
    let header = c.args.header.now in
    sized_value body_seen (number w32 0 0xffff_ffff) (is_body_of header) (body header.set header.kind header.target) c.in_ok-size.size c.in-Ok.body
    c.in_ok-size.ensures.takes c.in_ok-bytes.ensures.takes
    (let e = c.has_digest.ensures in let t = c.if-not-has_digest.false in cc) c.in-Ok.ensures.exact

pub returns-in-Err : goal.returns-in-Err
returns-in-Err c =
    let header = c.args.header.now in
    sized_fault body_seen (number w32 0 0xffff_ffff) (is_body_of header) (body header.set header.kind header.target) c.in_ok-size.size
    c.in_ok-size.ensures.takes c.in_ok-bytes.ensures.takes
    (let e = c.has_digest.ensures in let t = c.if-not-has_digest.false in cc) c.in-Err.ensures.exact
    (c.fault_behind.ensures ∙ ap (λ (p : ℕ). shift_fault p c.in-Err.fault) c.place-place.ensures.place)
