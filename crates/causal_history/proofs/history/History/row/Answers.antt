use Rattle.std.proofs.Common.{arith, sym, ◌∙◌, ap, subst, slice_get, Some, List, length, option_map}
use Rattle.group_model.specs.Marks.{HasNumber}
use Rattle.group_messages.specs.Messages.{message_of}
use Rattle.causal_history.specs.Rows.{Row, history_of}
use Rattle.causal_history.proofs.ListMore.{get-item}
use Rattle.causal_history.proofs.RowFacts.{row-number}
use Rattle.causal_history.proofs.history.History.row.Goals as goal

pub index-requires : goal.index-requires
index-requires c = omega (arith, c.requires, c.self.inside.table.rows.ok, ap length c.self.view_is)

pub returns-clause-row : goal.returns-clause-row
returns-clause-row c =
    let e = get-item c.self.inside.table.rows.items c.args.index c.index.result.now
    (omega (arith, c.requires, ap length c.self.view_is)) c.index.ensures in
    ap (λ (z : List Row). option_map (λ (row : Row). row.header) (slice_get z c.args.index)) (sym c.self.view_is)
    ∙ ap (option_map (λ (row : Row). row.header)) e ∙ ap Some (sym c.header.ensures)

pub returns-clause-message : goal.returns-clause-message
returns-clause-message c =
    let e = get-item c.self.inside.table.rows.items c.args.index c.index.result.now
    (omega (arith, c.requires, ap length c.self.view_is)) c.index.ensures in
    subst (λ z. HasNumber (history_of c.args.self.now) c.args.index (message_of z)) (sym c.header.ensures)
    (subst (λ (z : List Row). HasNumber (history_of z) c.args.index (message_of c.index.result.now.header)) c.self.view_is
    (row-number c.self.inside.table.rows.items c.args.index c.index.result.now e))
