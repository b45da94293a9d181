use Rattle.std.proofs.Common.{◌<◌, length, [], ◌∷◌, sym, ◌∙◌, ap, arith}
use Rattle.group_model.specs.Membership.{ids_named}
use Rattle.reference_member.specs.Members.{known}
use Rattle.member_checks.specs.declared.facts.CardFacts.{CardFacts}
use Rattle.member_checks.proofs.SeatFacts.{known-is}
use Rattle.member_checks.proofs.CommandStages.{add-cards, add-full, add-joined, add-room}
use Rattle.member_checks.proofs.commands.add_refusal.Goals as goal

pub returns-in-Some : goal.returns-in-Some
returns-in-Some g c = λ M is.
    add-joined g.K.Kem g.G.Membership.rule M c.args.card.now c.in-Some.refusal (c.in-Some.ensures M is)

pub returns-in-Some-cards_refusal : goal.returns-in-Some-cards_refusal
returns-in-Some-cards_refusal g c = λ M is.
    let card = c.args.card.now in
    add-cards g.K.Kem g.G.Membership.rule M card c.in-Some-cards_refusal.refusal (c.in_default.ensures M is)
    (c.in-Some-cards_refusal.ensures M (card ∷ []) is (ap (λ (z : CardFacts). z ∷ []) c.facts_of_view.ensures))

pub returns-then-places-ge-MEMBERS : goal.returns-then-places-ge-MEMBERS
returns-then-places-ge-MEMBERS g c = λ M is.
    let card = c.args.card.now in
    let size = ap (λ h. length (ids_named h)) (known-is g.K.Kem M c.args.seat.now is) ∙ sym c.places.ensures.places in
    add-full g.K.Kem g.G.Membership.rule M card (c.in_default.ensures M is)
    (c.in_default-cards_refusal.ensures M (card ∷ []) is (ap (λ (z : CardFacts). z ∷ []) c.facts_of_view.ensures))
    (λ low. absurd (omega (arith, size)))

pub returns : goal.returns
returns g c = λ M is.
    let card = c.args.card.now in
    let size = ap (λ h. length (ids_named h)) (known-is g.K.Kem M c.args.seat.now is) ∙ sym c.places.ensures.places in
    let low : length (ids_named (known M)) < 32 = omega (arith, size) in
    add-room g.K.Kem g.G.Membership.rule M card c.room_refusal.result (c.in_default.ensures M is)
    (c.in_default-cards_refusal.ensures M (card ∷ []) is (ap (λ (z : CardFacts). z ∷ []) c.facts_of_view.ensures))
    low (c.room_refusal.ensures M is)
