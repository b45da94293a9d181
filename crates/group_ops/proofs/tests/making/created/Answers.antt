use Rattle.std.proofs.Common.{rules, ◌≡◌, ◌∙◌, ℕ, true, List, sym, subst}
use Rattle.std.specs.Prelude.{All, IsTrue}
use Rattle.group_model.specs.Sets.{Id, In}
use Rattle.group_model.specs.Marks.{IsPlace}
use Rattle.group_model.specs.Membership.{ids_named}
use Rattle.group_model.proofs.RemoveWins.{ids_named-distinct}
use Rattle.causal_history.specs.Bits.{bit}
use Rattle.causal_history.specs.Rows.{history_of}
use Rattle.secret_book.specs.HeldBooks.{held}
use Rattle.body_parts.specs.declared.addressing.Receiver.{Receiver}
use Rattle.body_parts.specs.Receivers.{ids_to}
use Rattle.body_parts.specs.Sending.{CanReach, CanSend}
use Rattle.body_parts.proofs.Reaching.{each_place}
use Rattle.group_ops.specs.Making.{placed_by}
use Rattle.group_ops.proofs.Founded.{are_some, by_cards}
use Rattle.group_ops.proofs.tests.making.created.Goals as goal

pub make_seeded-requires-clause-can : goal.make_seeded-requires-clause-can
make_seeded-requires-clause-can c =
    let yes : IsTrue c.can_reach_each.result = search rules in
    let named : List Id = ids_named (history_of c.in_ok-behind.behind) in
    let none : List Id = ids_named (history_of c.new-before.result) in
    let placed : named ≡ placed_by none c.args.cards.now = c.in_ok-behind.ensures.ids
    ∙ sym (by_cards none c.args.cards.now (are_some c.args.cards.now c.is_empty.result c.is_empty.ensures c.if-is_empty.false)) in
    subst
    (λ (l : List Id). (p : ℕ) (id : Id) → IsPlace l p id → bit c.args.to.0 p ≡ true
    → CanSend (held c.args.book.now) c.in_ok-draws.draws p id)
    placed
    (each_place named (bit c.args.to.0) c.in_ok-list.list.items (held c.args.book.now) c.in_ok-draws.draws
    (ids_named-distinct (history_of c.in_ok-behind.behind)) c.in_ok-list.ensures
    (subst (All (λ (r : Receiver). CanReach (held c.args.book.now) r.place)) c.as_slice-all.ensures.value (c.can_reach_each.ensures yes))
    (λ id i. c.in_ok-draws.ensures.left id (subst (λ (l : List Receiver). In id (ids_to l)) (sym c.as_slice-all.ensures.value) i)))
