use Rattle.std.proofs.Common.{◌≡◌, ◌↔◌, ◌≤◌, true, length, [], ◌∷◌, sym, ap, subst, arith}
use Rattle.std.specs.Option.{is_some}
use Rattle.group_messages.specs.Messages.{kind_of}
use Rattle.group_model.specs.Membership.{ids_named, joined, named_by}
use Rattle.causal_history.specs.Rows.{history_of}
use Rattle.causal_cast.proofs.Histories.{one-more}
use Rattle.causal_cast.proofs.limits.has_places.Goals as goal

-- all places are taken, so whom an add names has to have one
pub returns-else-places-lt-PLACES : goal.returns-else-places-lt-PLACES
returns-else-places-lt-PLACES c =
    let ids = ids_named (history_of c.args.history.now) in
    let full : length ids ≡ 32 = omega (arith, c.places.ensures.places, c.places.ensures.few) in
    let named : named_by (kind_of c.args.header.now) ≡ c.in-Add.target.0.0 ∷ [] = sym (ap named_by c.in-Add.ensures) in
    rw c.is_some.ensures (subst (λ z. (is_some c.place.result ≡ true) ↔ (length (joined ids z) ≤ 32)) (sym named)
    (one-more ids c.in-Add.target.0.0 c.place.result full c.place.ensures.place))
