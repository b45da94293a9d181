use Rattle.std.specs.Int.{w8}
use Rattle.std.proofs.lemmas.Result.{err_from_is_err_and}
use Rattle.group_fields.specs.Headers.{kind, kind_number, kind_of}
use Rattle.group_fields.proofs.HeaderBytes.{kind_back}
use Rattle.group_fields.proofs.ReadSteps.{numbered_fault, numbered_value}
use Rattle.group_fields.proofs.header_view.take_kind.Goals as goal

pub returns-in_err-number-clause-takes : goal.returns-in_err-number-clause-takes
unfolding kind
returns-in_err-number-clause-takes c =
    let p = err_from_is_err_and c.from_residual.result c.from_residual.ensures.1 in
    rw (p.1, p.2) (numbered_fault w8 1 7 kind_of kind_number kind_back c.in_err-number.ensures.takes)

pub returns-clause-takes : goal.returns-clause-takes
unfolding kind
returns-clause-takes c = numbered_value w8 1 7 kind_of kind_number kind_back c.kind_of.result c.kind_of.ensures c.in_ok-number.ensures.takes
