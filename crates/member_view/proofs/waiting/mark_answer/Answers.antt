use Rattle.std.proofs.Common.{arith}
use Rattle.causal_history.specs.Bits.{mark}
use Rattle.causal_history.specs.Rows.{history_of}
use Rattle.group_model.proofs.Numbers.{number-below}
use Rattle.member_view.proofs.Oldest.{rows-length, message-at}
use Rattle.member_view.proofs.Waits.{those-answer, those-no_answer}
use Rattle.member_view.proofs.waiting.mark_answer.Goals as goal

pub put-requires : goal.put-requires
put-requires c =
    let f = rows-length c.args.history.now in
    let k = c.requires.kept.few in
    let t = message-at (history_of c.args.history.now) c.args.index (omega arith) in
    let q = c.in-Some.ensures t.by t.is_row in
    let b = number-below (history_of c.args.history.now) c.in-Some.answered q.0 q.1 in omega arith

pub returns-in-Some : goal.returns-in-Some
returns-in-Some c = λ m r. let q = c.in-Some.ensures m r in
    those-answer (history_of c.args.history.now) c.requires.kept.history (mark c.args.into.now) (mark c.put.new.self) c.args.author.now.id.0.0 m
    c.in-Some.answered q.0 q.1 ((c.is_by.ensures m r).0 c.if-is_by.true) q.2 c.put.ensures.set c.put.ensures.others

pub returns-in_default : goal.returns-in_default
returns-in_default c = λ m r. those-no_answer (history_of c.args.history.now) (mark c.args.into.now) c.args.author.now.id.0.0 m (c.in_default.ensures m r)
