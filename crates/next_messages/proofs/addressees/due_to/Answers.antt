use Rattle.std.proofs.Common.{sym, ◌∙◌, subst}
use Rattle.group_model.specs.Messages.{Stands}
use Rattle.group_model.proofs.Numbers.{number-in}
use Rattle.group_messages.specs.Messages.{ids_of, message_of}
use Rattle.causal_history.specs.Bits.{bit}
use Rattle.causal_history.specs.Rows.{history_of}
use Rattle.next_messages.proofs.Addressed.{due, heads-stand, stands-well}
use Rattle.next_messages.proofs.addressees.due_to.Goals as goal

pub returns-in-Some-clause-none : goal.returns-in-Some-clause-none
returns-in-Some-clause-none g c =
    let h = history_of c.args.history.now in
    let row = c.in-Some.ensures.number in
    record { by = row.by; there_is = number-in h c.in-Some.field-0 row.by row.number; has_id = row.has_id ∙ c.id.ensures }

pub addressees-requires-clause-create : goal.addressees-requires-clause-create
addressees-requires-clause-create g c =
    let header = c.args.header.now in
    stands-well c.args.history.now (message_of header) header.kind header.target c.requires.create

pub addressees-requires-clause-stand : goal.addressees-requires-clause-stand
addressees-requires-clause-stand g c =
    heads-stand (history_of c.args.history.now) (ids_of c.args.header.now.predecessors) c.requires.heads

pub returns-in-None-clause-due : goal.returns-in-None-clause-due
returns-in-None-clause-due g c =
    let h = history_of c.args.history.now in
    let header = c.args.header.now in
    due g.G.Membership.rule g.G.Membership.is_rule c.addressees_are_of_the_past.ensures c.args.history.now header
    (bit c.addressees.result.0) c.count-kept.ensures.kept.history
    (heads-stand h (ids_of header.predecessors) c.requires.heads)
    (λ s. c.in-None.ensures.number (subst (λ z. Stands h z) (sym c.id.ensures) s)) c.addressees.ensures
