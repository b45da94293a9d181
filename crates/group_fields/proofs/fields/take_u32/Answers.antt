use Rattle.std.proofs.Common.{arith}
use Rattle.std.specs.Int.{w32}
use Rattle.std.proofs.lemmas.Result.{err_from_is_err_and}
use Rattle.group_fields.proofs.ReadSteps.{number_fault, number_refused, number_value, four_bytes}
use Rattle.group_fields.proofs.fields.take_u32.Goals as goal

pub returns-in_err-bytes-clause-takes : goal.returns-in_err-bytes-clause-takes
returns-in_err-bytes-clause-takes c =
    let p = err_from_is_err_and c.from_residual.result c.from_residual.ensures.1 in
    rw (p.1, p.2) (number_fault w32 c.args.least c.args.greatest c.in_err-bytes.ensures.takes)

pub returns-then-is_between-clause-takes : goal.returns-then-is_between-clause-takes
returns-then-is_between-clause-takes c =
    let bytes = c.in_ok-bytes.bytes.now in
    let is = four_bytes bytes c.from_be_bytes-number.result c.in_ok-bytes.ensures.size (omega arith) (omega arith) (omega arith) (omega arith) c.from_be_bytes-number.ensures in
    number_value w32 c.args.least c.args.greatest c.from_be_bytes-number.result c.in_ok-bytes.ensures.takes is
    (let e = c.is_between.ensures in let t = c.if-is_between.true in cc)

pub returns-else-is_between-clause-takes : goal.returns-else-is_between-clause-takes
returns-else-is_between-clause-takes c =
    let bytes = c.in_ok-bytes.bytes.now in
    let is = four_bytes bytes c.from_be_bytes-number.result c.in_ok-bytes.ensures.size (omega arith) (omega arith) (omega arith) (omega arith) c.from_be_bytes-number.ensures in
    number_refused w32 c.args.least c.args.greatest c.from_be_bytes-number.result c.place-place.result c.in_ok-bytes.ensures.takes is
    (let e = c.is_between.ensures in let t = c.if-is_between.false in cc) c.place-place.ensures.place
