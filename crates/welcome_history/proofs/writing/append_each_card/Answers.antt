use Rattle.std.proofs.Common.{[], slice_index_or, arith}
use Rattle.std.proofs.lemmas.Option.{slice_get-get_or}
use Rattle.group_fields.specs.Cards.{card}
use Rattle.group_model.specs.Sets.{Id}
use Rattle.causal_history.proofs.ListMore.{get-in}
use Rattle.welcome_history.proofs.HandedOn.{cards_more, no_first, none_yet}
use Rattle.welcome_history.proofs.writing.append_each_card.Goals as goal

pub loop-id-init : goal.loop-id-init
loop-id-init c = ([], no_first c.args.history.now, none_yet card c.args.into.now.items)

pub first_card-requires : goal.first_card-requires
first_card-requires c =
    let ids = c.args.ids.now in
    let at = c.loop-id.id-index in
    c.requires.each (get-in ids at (slice_index_or ids at []) (slice_get-get_or ids at [] (omega arith)))

pub loop-id-preserved : goal.loop-id-preserved
loop-id-preserved c =
    let rows = c.args.history.now in
    let ids = c.args.ids.now in
    let at = c.loop-id.id-index in
    let x : Id = slice_index_or ids at [] in
    let one = c.first_card.result in
    cards_more rows ids at x one c.bytes.result.now c.args.into.now.items c.loop-id.into.items c.append_bytes.new.bytes.items
    (slice_get-get_or ids at [] (omega arith)) c.first_card.ensures (c.cards_are_of_their_ids.ensures.id rows x one c.first_card.ensures)
    c.bytes.ensures c.in_ok-append_bytes.ensures.plain c.loop-id.invariant
