use Rattle.std.proofs.Common.{◌≢◌, ◌∷◌}
use Rattle.std.specs.Prelude.{Some}
use Rattle.causal_history.specs.Bits.{bit}
use Rattle.causal_history.specs.Rows.{history_of}
use Rattle.group_messages.specs.Messages.{message_of}
use Rattle.group_model.specs.Membership.{InView, IsRecipient, ids_named}
use Rattle.member_view.proofs.Crowds.{crowd-as, crowd-others, crowd-but, with-distinct}
use Rattle.member_view.proofs.views.recipients.Goals as goal

pub returns-in-None : goal.returns-in-None
returns-in-None g c =
    let h = history_of c.args.history.now in let m = message_of c.args.header.now in
    crowd-as (ids_named (m ∷ h)) (bit c.view-seen_by.result.0)
    (λ x. InView g.G.Membership.rule h m x × (x ≢ m.sender)) (λ x. IsRecipient g.G.Membership.rule h m x)
    (λ x k. record { in_view = k.0; other = k.1 }) (λ x k. (k.in_view, k.other))
    (crowd-others (ids_named (m ∷ h)) (bit c.view-seen_by.result.0) (λ x. InView g.G.Membership.rule h m x) m.sender
    (rw c.sender.ensures at c.in-None.ensures.place) c.view-seen_by.ensures)

pub returns-in-Some : goal.returns-in-Some
returns-in-Some g c =
    let h = history_of c.args.history.now in let m = message_of c.args.header.now in
    crowd-as (ids_named (m ∷ h)) (bit c.without.result.0)
    (λ x. InView g.G.Membership.rule h m x × (x ≢ m.sender)) (λ x. IsRecipient g.G.Membership.rule h m x)
    (λ x k. record { in_view = k.0; other = k.1 }) (λ x k. (k.in_view, k.other))
    (crowd-but (ids_named (m ∷ h)) (with-distinct h (Some m)) (bit c.view-seen_by.result.0) (bit c.new.result.0) (bit c.with.result.0)
    (bit c.without.result.0) (λ x. InView g.G.Membership.rule h m x) m.sender c.in-Some.place
    (rw c.sender.ensures at c.in-Some.ensures.place) c.new.ensures c.with.ensures.set c.with.ensures.others c.without.ensures c.view-seen_by.ensures)
