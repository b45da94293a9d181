use Rattle.std.proofs.Common.{arith}
use Rattle.std.specs.Prelude.{None}
use Rattle.group_fields.specs.Cards.{card_of_sets}
use Rattle.group_fields.specs.LayoutReads.{left}
use Rattle.group_fields.proofs.ReadSteps.{never_back}
use Rattle.wire_codec.specs.Packets.{cards_above}
use Rattle.wire_codec.specs.Readings.{list_at}
use Rattle.wire_codec.specs.Repeated.{items_in}
use Rattle.wire_codec.proofs.ListReads.{AreTaken, are_taken, count_is}
use Rattle.wire_codec.proofs.CardBytes.{cards_above_plain}
use Rattle.wire_codec.proofs.cards.take_cards_above.Goals as goal

pub since-requires : goal.since-requires
since-requires c =
    let part = cards_above c.args.set c.args.count None in
    let old = c.args.cursor.now in
    let new = c.pass_cards_above.new.cursor in
    let forth = never_back part old.place (left old) new.place (left new) (list_at part old) c.in_ok-pass_cards_above.ensures.gives in
    omega (arith, forth, c.place-from.ensures.place)

taken : (c : goal.After-since) → AreTaken (cards_above c.args.set c.args.count None) (card_of_sets c.args.set c.args.set) c.args.count c.since.result.now c.args.cursor.now c.pass_cards_above.new.cursor
taken c =
    are_taken (cards_above c.args.set c.args.count None) (card_of_sets c.args.set c.args.set) c.args.count c.place-from.result c.args.cursor.now c.pass_cards_above.new.cursor
    c.since.result.now (cards_above_plain c.args.set c.args.count None) c.place-from.ensures.place c.in_ok-pass_cards_above.ensures c.since.ensures

pub invariant_of-result : goal.invariant_of-result
invariant_of-result c = record { spelled = (taken c).spelled; least = c.requires.least; greatest = c.requires.greatest }

pub returns-clause-takes : goal.returns-clause-takes
returns-clause-takes c = record { gives = (taken c).gives; same = c.in_ok-pass_cards_above.ensures.same; within = c.in_ok-pass_cards_above.ensures.within }

pub returns-clause-count : goal.returns-clause-count
returns-clause-count c =
    let item = card_of_sets c.args.set c.args.set in
    count_is item c.args.count c.since.result.now (items_in item c.args.count c.since.result.now) (taken c).spelled
