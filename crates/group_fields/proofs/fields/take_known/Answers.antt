use Rattle.std.proofs.Common.{refl, bytes_eq}
use Rattle.std.proofs.lemmas.Result.{err_from_is_err_and}
use Rattle.group_fields.specs.Fields.{known_bytes}
use Rattle.group_fields.specs.Layouts.{known}
use Rattle.group_fields.proofs.ReadSteps.{fails_from, field_fault, field_refused, field_value, holds_from}
use Rattle.group_fields.proofs.fields.take_known.Goals as goal

pub returns-in_err-bytes-clause-takes : goal.returns-in_err-bytes-clause-takes
unfolding known
returns-in_err-bytes-clause-takes c =
    let p = err_from_is_err_and c.from_residual.result c.from_residual.ensures.1 in
    rw (p.1, p.2) (field_fault (λ nothing. tt) (known_bytes c.args.wanted.now) c.in_err-bytes.ensures.takes)

pub returns-then-ne-clause-takes : goal.returns-then-ne-clause-takes
unfolding known
returns-then-ne-clause-takes c =
    field_refused (λ nothing. tt) (known_bytes c.args.wanted.now) c.place-place.result c.in_ok-bytes.ensures.takes
    (fails_from (bytes_eq c.in_ok-bytes.bytes.now c.args.wanted.now) c.ne.result c.ne.ensures c.if-ne.true) c.place-place.ensures.place

pub returns-clause-takes : goal.returns-clause-takes
unfolding known
returns-clause-takes c =
    field_value (λ nothing. tt) (known_bytes c.args.wanted.now) tt c.in_ok-bytes.ensures.takes
    (holds_from (bytes_eq c.in_ok-bytes.bytes.now c.args.wanted.now) c.ne.result c.ne.ensures c.if-ne.false) refl
