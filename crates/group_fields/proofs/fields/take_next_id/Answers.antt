use Rattle.std.proofs.Common.{◌≡◌, ap, sym, List, ℕ}
use Rattle.std.proofs.lemmas.Result.{err_from_is_err_and}
use Rattle.group_fields.specs.Fields.{digest_with, is_above}
use Rattle.group_fields.specs.Layouts.{next_id}
use Rattle.group_fields.specs.declared.ids.Digest.{Digest}
use Rattle.group_fields.proofs.ReadSteps.{field_fault, field_refused, field_value}
use Rattle.group_fields.proofs.fields.take_next_id.Goals as goal

pub returns-in_err-bytes-clause-takes : goal.returns-in_err-bytes-clause-takes
unfolding next_id
returns-in_err-bytes-clause-takes c =
    let p = err_from_is_err_and c.from_residual.result c.from_residual.ensures.1 in
    rw (p.1, p.2) (field_fault (λ id. id) (digest_with (is_above c.args.last)) c.in_err-bytes.ensures.takes)

pub returns-then-is_above-clause-takes : goal.returns-then-is_above-clause-takes
unfolding next_id
returns-then-is_above-clause-takes c =
    let same : c.in_ok-bytes.bytes.now ≡ c.copy_from_slice.new.self = sym c.copy_from_slice.ensures.after in
    field_value (λ id. id) (digest_with (is_above c.args.last)) (record { 0 = c.copy_from_slice.new.self }) c.in_ok-bytes.ensures.takes
    (let e = c.is_above.ensures in let t = c.if-is_above.true in cc) (ap (λ (b : List ℕ). let d : Digest = record { 0 = b } in d) same)

pub returns-else-is_above-clause-takes : goal.returns-else-is_above-clause-takes
unfolding next_id
returns-else-is_above-clause-takes c =
    field_refused (λ id. id) (digest_with (is_above c.args.last)) c.place-place.result c.in_ok-bytes.ensures.takes
    (let e = c.is_above.ensures in let t = c.if-is_above.false in cc) c.place-place.ensures.place
