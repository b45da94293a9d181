use Rattle.std.proofs.Common.{◌≡◌, ap, sym, refl, true, List, ℕ}
use Rattle.std.proofs.lemmas.Result.{err_from_is_err_and}
use Rattle.group_fields.specs.Fields.{digest_with}
use Rattle.group_fields.specs.Layouts.{digest}
use Rattle.group_fields.specs.declared.ids.Digest.{Digest}
use Rattle.group_fields.proofs.ReadSteps.{field_fault, field_value}
use Rattle.group_fields.proofs.fields.take_digest.Goals as goal

pub returns-in_err-bytes-clause-takes : goal.returns-in_err-bytes-clause-takes
unfolding digest
returns-in_err-bytes-clause-takes c =
    let p = err_from_is_err_and c.from_residual.result c.from_residual.ensures.1 in
    rw (p.1, p.2) (field_fault (λ id. id) (digest_with (λ bytes. true)) c.in_err-bytes.ensures.takes)

pub returns-clause-takes : goal.returns-clause-takes
unfolding digest
returns-clause-takes c =
    let same : c.in_ok-bytes.bytes.now ≡ c.copy_from_slice.new.self = sym c.copy_from_slice.ensures.after in
    field_value (λ id. id) (digest_with (λ bytes. true)) (record { 0 = c.copy_from_slice.new.self }) c.in_ok-bytes.ensures.takes refl
    (ap (λ (b : List ℕ). let d : Digest = record { 0 = b } in d) same)
