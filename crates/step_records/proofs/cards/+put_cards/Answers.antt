use Rattle.std.proofs.lemmas.Result.{IfOk-weaker}
use Rattle.step_records.proofs.CardReads.{more-put, no-first}
use Rattle.step_records.proofs.cards.+put_cards.Goals as goal

pub returns-in_default : goal.returns-in_default
returns-in_default t c = no-first c.args.count c.args.bytes.now c.if-count-eq0.false c.in_default.ensures

pub returns : goal.returns
returns t c =
    IfOk-weaker c.put_cards.result _ _
    (λ b put. more-put c.args.count c.args.bytes.now c.in-Some.others.now c.in-Some.card c.if-count-eq0.false c.in-Some.ensures
    c.args.cards.now c.push.new.self c.put_cards.new.cards b c.in_ok-push.ensures.ok put)
    c.put_cards.ensures
