use Rattle.std.proofs.Common.{ℕ, sym, subst, arith}
use Rattle.group_fields.specs.Cards.{card_of_sets}
use Rattle.group_fields.specs.LayoutReads.{left}
use Rattle.group_fields.specs.Layouts.{Spells}
use Rattle.group_fields.proofs.ReadSteps.{never_back}
use Rattle.wire_codec.specs.Packets.{cards_named}
use Rattle.wire_codec.specs.Readings.{list_at}
use Rattle.wire_codec.specs.Repeated.{repeated}
use Rattle.wire_codec.proofs.CardBytes.{cards_named_plain}
use Rattle.wire_codec.proofs.ListReads.{AreTaken, are_taken}
use Rattle.wire_codec.proofs.cards.take_cards_named.Goals as goal

pub since-requires : goal.since-requires
since-requires c =
    let part = cards_named c.args.set c.args.ids.now in
    let old = c.args.cursor.now in
    let new = c.pass_cards_named.new.cursor in
    let forth = never_back part old.place (left old) new.place (left new) (list_at part old) c.in_ok-pass_cards_named.ensures.gives in
    omega (arith, forth, c.place-from.ensures.place)

taken : (c : goal.After-count) → AreTaken (cards_named c.args.set c.args.ids.now) (card_of_sets c.args.set c.args.set) c.count.result c.since.result.now c.args.cursor.now c.pass_cards_named.new.cursor
taken c =
    let item = card_of_sets c.args.set c.args.set in
    are_taken (cards_named c.args.set c.args.ids.now) item c.count.result c.place-from.result c.args.cursor.now c.pass_cards_named.new.cursor
    c.since.result.now (λ b v s. subst (λ (n : ℕ). Spells (repeated n item) b v) (sym c.count.ensures) (cards_named_plain c.args.set c.args.ids.now b v s))
    c.place-from.ensures.place c.in_ok-pass_cards_named.ensures c.since.ensures

pub invariant_of-result : goal.invariant_of-result
invariant_of-result c = record { spelled = (taken c).spelled; least = c.requires.least; greatest = c.requires.greatest }

pub returns : goal.returns
returns c = record { gives = (taken c).gives; same = c.in_ok-pass_cards_named.ensures.same; within = c.in_ok-pass_cards_named.ensures.within }
