use Rattle.std.proofs.Common.{arith}
use Rattle.std.proofs.lemmas.Result.{err_from_is_err_and}
use Rattle.group_fields.proofs.IdBytes.{pass_more, pass_none, pass_stops}
use Rattle.group_fields.proofs.fields.+pass_ids.Goals as goal

pub returns-then-count-eq0-clause-takes : goal.returns-then-count-eq0-clause-takes
returns-then-count-eq0-clause-takes t c = pass_none c.args.count c.args.last c.args.cursor.now (omega arith) c.requires.within

pub returns-in_err-id-clause-takes : goal.returns-in_err-id-clause-takes
returns-in_err-id-clause-takes t c =
    let p = err_from_is_err_and c.from_residual.result c.from_residual.ensures.1 in
    rw (p.1, p.2) (pass_stops c.args.count c.args.last (omega arith) c.in_err-id.ensures.takes)

pub returns-clause-takes : goal.returns-clause-takes
returns-clause-takes t c =
    pass_more c.args.count c.args.last c.args.cursor.now c.take_next_id.new.cursor c.pass_ids.new.cursor c.in_ok-id.id c.pass_ids.result (omega arith)
    c.in_ok-id.ensures.takes c.in_ok-id.ensures.first c.in_ok-id.ensures.moved c.pass_ids.ensures.takes
