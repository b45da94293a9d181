use Rattle.std.proofs.Common.{◌≡◌, List, map, sym, subst}
use Rattle.group_fields.specs.Cards.{card_id}
use Rattle.group_messages.proofs.HeaderFacts.{ascending-distinct}
use Rattle.group_model.specs.Sets.{Id, In, IsDistinct}
use Rattle.causal_history.specs.Bits.{bit}
use Rattle.secret_book.specs.HeldBooks.{held}
use Rattle.body_parts.specs.Receivers.{ArePlaced, AreReceivers, id_to}
use Rattle.group_ops.proofs.Founded.{all_ids, few_ids, founded, ids_in}
use Rattle.group_ops.proofs.making.create_body.Goals as goal

pub receivers_among-requires-clause-distinct : goal.receivers_among-requires-clause-distinct
receivers_among-requires-clause-distinct g c =
    let same : ids_in c.as_slice.result.now ≡ map card_id c.args.cards.now = all_ids c.args.cards.now c.new-members.result.items
    c.append_cards.new.members.items c.as_slice.result.now c.new-members.ensures.items c.in_ok-append_cards.ensures.members c.as_slice.ensures.value in
    subst IsDistinct (sym same) (ascending-distinct (map card_id c.args.cards.now) c.requires.cards.ascending)

pub receivers_among-requires-clause-few : goal.receivers_among-requires-clause-few
receivers_among-requires-clause-few g c =
    few_ids c.args.cards.now c.as_slice.result.now (all_ids c.args.cards.now c.new-members.result.items c.append_cards.new.members.items
    c.as_slice.result.now c.new-members.ensures.items c.in_ok-append_cards.ensures.members c.as_slice.ensures.value) c.requires.cards.few

pub append_parts-requires-clause-placed : goal.append_parts-requires-clause-placed
append_parts-requires-clause-placed g c =
    (ids_in c.as_slice.result.now, subst (ArePlaced (ids_in c.as_slice.result.now)) (sym c.as_slice-2.ensures.value) c.in_ok-receivers.ensures.placed)

pub append_parts-requires-clause-can : goal.append_parts-requires-clause-can
append_parts-requires-clause-can g c = λ r i.
    let same : ids_in c.as_slice.result.now ≡ map card_id c.args.cards.now = all_ids c.args.cards.now c.new-members.result.items
    c.append_cards.new.members.items c.as_slice.result.now c.new-members.ensures.items c.in_ok-append_cards.ensures.members c.as_slice.ensures.value in
    let there : In r c.in_ok-receivers.receivers.items = subst (In r) c.as_slice-2.ensures.value i in
    let placed : ArePlaced (map card_id c.args.cards.now) c.in_ok-receivers.receivers.items =
    subst (λ (ids : List Id). ArePlaced ids c.in_ok-receivers.receivers.items) same c.in_ok-receivers.ensures.placed in
    c.requires.can r.place (id_to r) (placed r there) (c.in_ok-receivers.ensures.only r there)

pub returns : goal.returns
returns g c = λ ids.
    let same : ids_in c.as_slice.result.now ≡ map card_id c.args.cards.now = all_ids c.args.cards.now c.new-members.result.items
    c.append_cards.new.members.items c.as_slice.result.now c.new-members.ensures.items c.in_ok-append_cards.ensures.members c.as_slice.ensures.value in
    let to : AreReceivers (map card_id c.args.cards.now) (bit c.args.to.0) c.as_slice-2.result.now =
    subst (AreReceivers (map card_id c.args.cards.now) (bit c.args.to.0)) (sym c.as_slice-2.ensures.value)
    (subst (λ (l : List Id). AreReceivers l (bit c.args.to.0) c.in_ok-receivers.receivers.items) same c.in_ok-receivers.ensures) in
    let all = c.in_ok-append_parts.ensures in
    founded g.K.Kem ids c.args.cards.now (bit c.args.to.0) c.args.seed.now c.args.draws (held c.args.book.now) (held c.append_parts.new.book)
    c.as_slice-2.result.now all.0 c.new-body.result.items c.append_cards.new.into.items c.append_parts.new.into.items c.from.result c.requires.some to
    all.2 c.new-body.ensures.items (c.in_ok-append_cards.ensures.cards g.K.Kem.SET c.requires.cards.of_set) all.1 c.from.ensures
