use Rattle.std.proofs.Common.{rules, arith, ◌≡◌, ℕ, true, List, [], ap, sym, subst}
use Rattle.std.specs.Prelude.{All, IsTrue}
use Rattle.group_model.specs.Sets.{Id, In}
use Rattle.group_model.specs.Marks.{IsPlace}
use Rattle.group_model.specs.Membership.{ids_named}
use Rattle.group_model.proofs.ListFacts.{In-nothing}
use Rattle.group_model.proofs.RemoveWins.{ids_named-distinct}
use Rattle.causal_history.specs.Bits.{bit}
use Rattle.causal_history.specs.Rows.{history_of}
use Rattle.secret_book.specs.HeldBooks.{held}
use Rattle.body_parts.specs.declared.addressing.Receiver.{Receiver}
use Rattle.body_parts.specs.Receivers.{ids_to}
use Rattle.body_parts.specs.Sending.{CanReach, CanSend}
use Rattle.body_parts.proofs.Reaching.{each_place}
use Rattle.group_ops.specs.Making.{AreFounders, placed_by}
use Rattle.group_ops.proofs.tests.making.updated.Goals as goal

nobody : AreFounders 2 []
nobody = record {
  of_set = λ card i. absurd (In-nothing i);
  spelled = λ card i. absurd (In-nothing i);
  ascending = tt;
  few = omega arith;
}

pub parts_body-requires : goal.parts_body-requires
parts_body-requires c =
    let yes : IsTrue c.can_reach_each.result = search rules in
    each_place (ids_named (history_of c.args.history.now)) (bit c.args.to.0) c.in_ok-list.list.items (held c.args.book.now)
    c.in_ok-draws.draws (ids_named-distinct (history_of c.args.history.now)) c.in_ok-list.ensures
    (subst (All (λ (r : Receiver). CanReach (held c.args.book.now) r.place)) c.as_slice-all.ensures.value (c.can_reach_each.ensures yes))
    (λ id i. c.in_ok-draws.ensures.left id (subst (λ (l : List Receiver). In id (ids_to l)) (sym c.as_slice-all.ensures.value) i))

pub make_seeded-requires-clause-cards : goal.make_seeded-requires-clause-cards
make_seeded-requires-clause-cards c = subst (AreFounders 2) (sym c.new-none.ensures) nobody

pub make_seeded-requires-clause-can : goal.make_seeded-requires-clause-can
make_seeded-requires-clause-can c =
    let yes : IsTrue c.can_reach_each.result = search rules in
    let ids : List Id = ids_named (history_of c.args.history.now) in
    let same : placed_by ids c.new-none.result ≡ ids = ap (placed_by ids) c.new-none.ensures in
    subst
    (λ (l : List Id). (p : ℕ) (id : Id) → IsPlace l p id → bit c.args.to.0 p ≡ true
    → CanSend (held c.args.book.now) c.in_ok-draws.draws p id)
    (sym same)
    (each_place ids (bit c.args.to.0) c.in_ok-list.list.items (held c.args.book.now)
    c.in_ok-draws.draws (ids_named-distinct (history_of c.args.history.now)) c.in_ok-list.ensures
    (subst (All (λ (r : Receiver). CanReach (held c.args.book.now) r.place)) c.as_slice-all.ensures.value (c.can_reach_each.ensures yes))
    (λ id i. c.in_ok-draws.ensures.left id (subst (λ (l : List Receiver). In id (ids_to l)) (sym c.as_slice-all.ensures.value) i)))
