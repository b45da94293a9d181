use Rattle.std.proofs.Common.{arith, sym, ◌∙◌, ap, length}
use Rattle.std.specs.Option.{option_copied}
use Rattle.group_model.specs.Marks.{IsPlace}
use Rattle.causal_history.proofs.RowFacts.{ids-length, id-row, id-message}
use Rattle.causal_history.proofs.history.History.id.Goals as goal

pub unwrap-requires : goal.unwrap-requires
unwrap-requires c = c.get_index.ensures.found.1 (omega (
  arith,
  c.requires,
  ids-length c.self.inside.table.rows.items c.self.inside.table.ids.keys c.self.invariant.ids_are,
  ap length c.self.view_is,
))

pub returns-clause-row : goal.returns-clause-row
returns-clause-row c =
    let p : IsPlace c.self.inside.table.ids.keys c.args.index c.unwrap.result.now =
    sym c.get_index.ensures.key ∙ ap option_copied c.unwrap.ensures in
    id-row c.self.inside.table.rows.items c.args.self.now c.self.view_is c.self.inside.table.ids.keys c.self.invariant.ids_are
    c.args.index c.unwrap.result.now p

pub returns-clause-message : goal.returns-clause-message
returns-clause-message c =
    let p : IsPlace c.self.inside.table.ids.keys c.args.index c.unwrap.result.now =
    sym c.get_index.ensures.key ∙ ap option_copied c.unwrap.ensures in
    id-message c.self.inside.table.rows.items c.args.self.now c.self.view_is c.self.inside.table.ids.keys c.self.invariant.ids_are
    c.args.index c.unwrap.result.now p
