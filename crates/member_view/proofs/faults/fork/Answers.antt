use Rattle.std.proofs.Common.{sym, arith}
use Rattle.causal_history.specs.Rows.{history_of}
use Rattle.group_messages.specs.Messages.{message_of}
use Rattle.member_view.proofs.Oldest.{rows-length, message-at}
use Rattle.member_view.proofs.FaultLaws.{forks-start, forks-more, forks-end, fork-found}
use Rattle.member_view.proofs.faults.fork.Goals as goal

pub loop-index-init : goal.loop-index-init
loop-index-init c = forks-start (history_of c.args.history.now) (message_of c.args.header.now)

pub returns-then-is_fork : goal.returns-then-is_fork
returns-then-is_fork c =
    let t = message-at (history_of c.args.history.now) c.loop-index.index
    (let e = c.count-index-end.ensures.count in let f = rows-length c.args.history.now in omega arith) in
    fork-found (history_of c.args.history.now) c.loop-index.index (message_of c.args.header.now) t.by c.id.result t.is_row
    ((c.is_fork.ensures t.by t.is_row).0 c.if-is_fork.true) (sym (c.id.ensures.message t.by t.is_row)) c.loop-index.invariant

pub loop-index-preserved : goal.loop-index-preserved
loop-index-preserved c =
    let t = message-at (history_of c.args.history.now) c.loop-index.index
    (let e = c.count-index-end.ensures.count in let f = rows-length c.args.history.now in omega arith) in
    forks-more (history_of c.args.history.now) c.loop-index.index (message_of c.args.header.now) t.by t.is_row
    (λ k. let y = (c.is_fork.ensures t.by t.is_row).1 k in let n = c.if-is_fork.false in cc) c.loop-index.invariant

pub returns : goal.returns
returns c = forks-end (history_of c.args.history.now) c.loop-index.index (message_of c.args.header.now)
    (let e = c.count-index-end.ensures.count in let f = rows-length c.args.history.now in omega arith) c.loop-index.invariant
