use Rattle.std.proofs.Common.{arith, sym, ◌∙◌, ap, subst, length}
use Rattle.group_model.specs.Messages.{Message}
use Rattle.group_model.specs.Marks.{HasNumber}
use Rattle.causal_history.specs.Rows.{history_of}
use Rattle.causal_history.proofs.ListMore.{get-item}
use Rattle.causal_history.proofs.RowFacts.{linked-at}
use Rattle.causal_history.proofs.history.History.seq.Goals as goal

pub index-requires : goal.index-requires
index-requires c = omega (arith, c.requires, c.self.inside.table.links.ok, c.self.invariant.linked, ap length c.self.view_is)

pub returns : goal.returns
returns c = λ m n.
    let k = linked-at c.self.inside.table.rows.items c.self.inside.table.links.items c.self.inside.table.numbers.items c.self.inside.table.ids.keys
    c.self.inside.table.senders.keys c.self.inside.table.named.keys c.self.inside.table.cards.items c.self.invariant
    c.args.index c.index.result.now m
    (get-item c.self.inside.table.links.items c.args.index c.index.result.now (omega (arith, c.requires, c.self.invariant.linked, ap length c.self.view_is)) c.index.ensures)
    (subst (λ z. HasNumber (history_of z) c.args.index m) (sym c.self.view_is) n) in
    k.link.seq ∙ ap (λ (z : Message). z.seq) (sym k.is)
