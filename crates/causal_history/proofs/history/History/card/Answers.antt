use Rattle.std.proofs.Common.{◌≡◌, ◌<◌, List, arith, ap, length, subst, sym, ◌∙◌, Some, slice_get}
use Rattle.group_model.specs.Membership.{ids_named}
use Rattle.group_model.proofs.Places.{place-one}
use Rattle.causal_history.specs.Rows.{Row, card_in, history_of}
use Rattle.causal_history.proofs.ListMore.{get-below, get-item, get-one}
use Rattle.causal_history.proofs.RowFacts.{card-at, card-below}
use Rattle.causal_history.proofs.history.History.card.Goals as goal

pub index-requires : goal.index-requires
index-requires c =
    let k = card-at c.self.inside.table.rows.items c.args.self.now c.self.view_is
    c.self.inside.table.named.keys c.self.invariant.named_are c.self.inside.table.cards.items c.self.invariant.cards c.args.place c.index-at.result.now
    (get-item c.self.inside.table.cards.items c.args.place c.index-at.result.now (card-below c.self.inside.table.rows.items c.args.self.now c.self.view_is
    c.self.inside.table.named.keys c.self.invariant.named_are c.self.inside.table.cards.items c.self.invariant.cards c.args.place c.requires) c.index-at.ensures) c.requires in
    omega (arith, get-below c.self.inside.table.rows.items c.index-at.result.now.row k.2.row k.2.in_rows, c.self.inside.table.rows.ok)

pub card-requires : goal.card-requires
card-requires c =
    let k = card-at c.self.inside.table.rows.items c.args.self.now c.self.view_is
    c.self.inside.table.named.keys c.self.invariant.named_are c.self.inside.table.cards.items c.self.invariant.cards c.args.place c.index-at.result.now
    (get-item c.self.inside.table.cards.items c.args.place c.index-at.result.now (card-below c.self.inside.table.rows.items c.args.self.now c.self.view_is
    c.self.inside.table.named.keys c.self.invariant.named_are c.self.inside.table.cards.items c.self.invariant.cards c.args.place c.requires) c.index-at.ensures) c.requires in
    let r = get-item c.self.inside.table.rows.items c.index-at.result.now.row c.index.result.now
    (get-below c.self.inside.table.rows.items c.index-at.result.now.row k.2.row k.2.in_rows) c.index.ensures in
    let same : k.2.row ≡ c.index.result.now = get-one c.self.inside.table.rows.items c.index-at.result.now.row k.2.row c.index.result.now k.2.in_rows r in
    subst (λ (z : Row). c.index-at.result.now.at < length z.cards) same (get-below k.2.row.cards c.index-at.result.now.at k.2.card k.2.in_row)

pub returns : goal.returns
returns c = λ x p.
    let k = card-at c.self.inside.table.rows.items c.args.self.now c.self.view_is
    c.self.inside.table.named.keys c.self.invariant.named_are c.self.inside.table.cards.items c.self.invariant.cards c.args.place c.index-at.result.now
    (get-item c.self.inside.table.cards.items c.args.place c.index-at.result.now (card-below c.self.inside.table.rows.items c.args.self.now c.self.view_is
    c.self.inside.table.named.keys c.self.invariant.named_are c.self.inside.table.cards.items c.self.invariant.cards c.args.place c.requires) c.index-at.ensures) c.requires in
    let r = get-item c.self.inside.table.rows.items c.index-at.result.now.row c.index.result.now
    (get-below c.self.inside.table.rows.items c.index-at.result.now.row k.2.row k.2.in_rows) c.index.ensures in
    let same : k.2.row ≡ c.index.result.now = get-one c.self.inside.table.rows.items c.index-at.result.now.row k.2.row c.index.result.now k.2.in_rows r in
    let card : k.2.card ≡ c.card.result = get-one c.index.result.now.cards c.index-at.result.now.at k.2.card c.card.result
    (subst (λ (z : Row). slice_get z.cards c.index-at.result.now.at ≡ Some k.2.card) same k.2.in_row) c.card.ensures in
    let id : k.0 ≡ x = place-one (ids_named (history_of c.args.self.now)) c.args.place k.0 x k.1 p in
    ap (λ z. card_in c.args.self.now z) (sym id) ∙ ap (λ (z : List Row). card_in z k.0) (sym c.self.view_is) ∙ k.2.first ∙ ap Some card
