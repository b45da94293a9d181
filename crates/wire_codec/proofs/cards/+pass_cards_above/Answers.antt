use Rattle.std.proofs.Common.{arith}
use Rattle.std.proofs.lemmas.Result.{err_from_is_err_and}
use Rattle.wire_codec.proofs.CardBytes.{above_more, above_none, above_stop}
use Rattle.wire_codec.proofs.cards.+pass_cards_above.Goals as goal

pub returns-then-count-eq0 : goal.returns-then-count-eq0
returns-then-count-eq0 t c = above_none c.args.set c.args.count c.args.last c.args.cursor.now (omega arith) c.requires.within.within

pub returns-in_err-one : goal.returns-in_err-one
returns-in_err-one t c =
    let p = err_from_is_err_and c.from_residual.result c.from_residual.ensures.1 in
    rw (p.1, p.2) (above_stop (λ both. both.0) c.args.set c.args.count c.args.last (omega arith) c.in_err-one.ensures.takes)

pub returns : goal.returns
returns t c =
    above_more (λ both. both.0) c.args.set c.args.count c.args.last (omega arith) c.in_ok-one.one c.in_ok-one.one.1 c.pass_cards_above.result
    c.in_ok-one.ensures.takes c.in_ok-one.ensures.id c.pass_cards_above.ensures
