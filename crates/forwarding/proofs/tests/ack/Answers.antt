use Rattle.std.proofs.Common.{rules, List, sym, subst}
use Rattle.std.specs.Prelude.{All, IsTrue}
use Rattle.group_model.specs.Sets.{In}
use Rattle.group_model.specs.Membership.{ids_named}
use Rattle.group_model.proofs.RemoveWins.{ids_named-distinct}
use Rattle.causal_history.specs.Bits.{bit}
use Rattle.causal_history.specs.Rows.{history_of}
use Rattle.secret_book.specs.HeldBooks.{held}
use Rattle.body_parts.specs.declared.addressing.Receiver.{Receiver}
use Rattle.body_parts.specs.Receivers.{ids_to}
use Rattle.body_parts.specs.Sending.{CanReach}
use Rattle.body_parts.proofs.Reaching.{each_place}
use Rattle.forwarding.proofs.tests.ack.Goals as goal

pub make_ack-requires : goal.make_ack-requires
make_ack-requires c =
    let yes : IsTrue c.can_reach_each.result = search rules in
    each_place (ids_named (history_of c.args.history.now)) (bit c.args.to.0) c.in_ok-list.list.items (held c.args.book.now)
    c.in_ok-draws.draws (ids_named-distinct (history_of c.args.history.now)) c.in_ok-list.ensures
    (subst (All (λ (r : Receiver). CanReach (held c.args.book.now) r.place)) c.as_slice-all.ensures.value (c.can_reach_each.ensures yes))
    (λ id i. c.in_ok-draws.ensures.left id (subst (λ (l : List Receiver). In id (ids_to l)) (sym c.as_slice-all.ensures.value) i))
