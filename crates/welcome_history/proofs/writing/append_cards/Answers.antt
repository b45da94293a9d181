use Rattle.std.proofs.Common.{sym, subst}
use Rattle.std.proofs.lemmas.Result.{on_ok_weaker}
use Rattle.group_model.specs.Membership.{ids_named}
use Rattle.causal_history.specs.Rows.{history_of}
use Rattle.welcome_history.specs.Welcomes.{AreInOrder}
use Rattle.welcome_history.proofs.HandedOn.{cards_counted}
use Rattle.welcome_history.proofs.writing.append_cards.Goals as goal

pub append_each_card-requires : goal.append_each_card-requires
append_each_card-requires g c =
    let named = ids_named (history_of c.args.history.now) in
    let order : AreInOrder named c.as_slice.result.now = subst (AreInOrder named) (sym c.as_slice.ensures.value) c.in_ok-ids.ensures in
    record { each = λ {a} i. (order.same a).0 i }

pub returns : goal.returns
returns g c =
    let named = ids_named (history_of c.args.history.now) in
    let order : AreInOrder named c.as_slice.result.now = subst (AreInOrder named) (sym c.as_slice.ensures.value) c.in_ok-ids.ensures in
    on_ok_weaker c.append_each_card.result
    (λ (cards, first, all). cards_counted g.K.Kem.SET c.args.history.now c.as_slice.result.now cards c.places.result c.args.into.now.items
    c.append_u8.new.bytes.items c.append_each_card.new.into.items c.requires order c.places.ensures.places c.places.ensures.few
    c.in_ok-append_u8.ensures.appends first all)
    c.append_each_card.ensures
