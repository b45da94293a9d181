use Rattle.std.proofs.Common.{◌==◌, refl}
use Rattle.std.specs.Int.{w8}
use Rattle.std.proofs.lemmas.Result.{err_from_is_err_and}
use Rattle.group_fields.specs.Headers.{flag_number, took_flag}
use Rattle.group_fields.proofs.HeaderBytes.{flag_back}
use Rattle.group_fields.proofs.ReadSteps.{numbered_fault, numbered_value}
use Rattle.group_fields.proofs.header_view.take_flag.Goals as goal

pub returns-in_err-number-clause-takes : goal.returns-in_err-number-clause-takes
unfolding took_flag
returns-in_err-number-clause-takes c =
    let p = err_from_is_err_and c.from_residual.result c.from_residual.ensures.1 in
    rw (p.1, p.2) (numbered_fault w8 0 1 (λ n. n == 1) flag_number flag_back c.in_err-number.ensures.takes)

pub returns-clause-takes : goal.returns-clause-takes
unfolding took_flag
returns-clause-takes c = numbered_value w8 0 1 (λ n. n == 1) flag_number flag_back _ refl c.in_ok-number.ensures.takes
