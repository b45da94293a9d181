use Rattle.causal_history.specs.Rows.{history_of}
use Rattle.member_view.proofs.Senders.{same-sender, no-sender}
use Rattle.member_view.proofs.author.is_by.Goals as goal

pub returns-in-None : goal.returns-in-None
returns-in-None c = λ m r. no-sender (history_of c.args.history.now) c.args.index m c.args.author.now.id.0.0 r
    (rw c.in-None.is at c.requires.author)

pub returns-in-Some : goal.returns-in-Some
returns-in-Some c = λ m r. same-sender (history_of c.args.history.now) c.in-Some.number c.sender_number.result c.args.author.now.id.0.0 m.sender
    (rw c.in-Some.is at c.requires.author) (c.sender_number.ensures m r)
