use Rattle.std.proofs.Common.{◌≡◌, map, Some, sym, ◌∙◌, subst, slice_get}
use Rattle.group_model.specs.Membership.{ids_named}
use Rattle.group_model.specs.Messages.{History}
use Rattle.causal_history.specs.Rows.{history_of}
use Rattle.causal_history.proofs.ListMore.{get-below}
use Rattle.member_view.specs.Causes.{IsFirst}
use Rattle.reference_member.specs.Refusals.{on_cards}
use Rattle.member_checks.specs.Answers.{IsFirstItem, NoItem}
use Rattle.member_checks.specs.Facts.{IsFaulty, IsKnown, IsOf, IsOfOther, facts_of}
use Rattle.member_checks.proofs.SeatFacts.{known-is}
use Rattle.member_checks.proofs.Finding.{found-some, found-none}
use Rattle.member_checks.proofs.CardStages.{by-fault, by-known, by-other, by-own, no-fault, no-known, no-other, no-own}
use Rattle.member_checks.proofs.cards.cards_refusal.Goals as goal

pub card_at-requires : goal.card_at-requires
card_at-requires g c = get-below c.args.cards.now _ c.in-Some-first_known.ensures.item c.in-Some-first_known.ensures.there

pub card_at-requires-in-Some-first_of_other : goal.card_at-requires-in-Some-first_of_other
card_at-requires-in-Some-first_of_other g c =
    get-below c.args.cards.now _ c.in-Some-first_of_other.ensures.item c.in-Some-first_of_other.ensures.there

pub returns-in-Some : goal.returns-in-Some
returns-in-Some g c = λ M given is e.
    let k = c.in-Some.ensures in
    let refusal = c.fault_refusal.ensures k.item k.such.0 k.there k.such.1 in
    subst (λ r. IsFirst (on_cards g.K.Kem g.G.Membership.rule M given) r) (sym refusal)
    (by-fault g.K.Kem g.G.Membership.rule M given c.in-Some.index k.item
    (subst (λ z. slice_get z c.in-Some.index ≡ Some k.item) e k.there) k.such.0 k.such.1
    (subst (λ z. IsFirstItem z IsFaulty c.in-Some.index) e k))

pub returns-then-is_some : goal.returns-then-is_some
returns-then-is_some g c = λ M given is e.
    let fault = subst (λ z. NoItem z IsFaulty) e c.in_default.ensures in
    let own = found-some c.args.cards.now (IsOf c.args.seat.now.me.0.0) c.first_own.result c.first_own.ensures
    (sym c.is_some.ensures ∙ c.if-is_some.true) in
    by-own g.K.Kem g.G.Membership.rule M given own.0 (no-fault g.K.Kem g.G.Membership.rule M given fault)
    (subst (λ x. IsFirstItem (map (facts_of g.K.Kem) given) (IsOf x) own.0) (sym is.id) (subst (λ z. IsFirstItem z (IsOf c.args.seat.now.me.0.0) own.0) e own.1))

pub returns-in-Some-first_known : goal.returns-in-Some-first_known
returns-in-Some-first_known g c = λ M given is e.
    let me = c.args.seat.now.me.0.0 in
    let index = c.in-Some-first_known.index in
    let fault = subst (λ z. NoItem z IsFaulty) e c.in_default.ensures in
    let own = found-none c.args.cards.now (IsOf me) c.first_own.result c.first_own.ensures
    (sym c.is_some.ensures ∙ c.if-is_some.false) in
    by-known g.K.Kem g.G.Membership.rule M given index c.card_at.result
    (subst (λ z. slice_get z index ≡ Some c.card_at.result) e c.card_at.ensures)
    (no-fault g.K.Kem g.G.Membership.rule M given fault)
    (no-own g.K.Kem g.G.Membership.rule M given
    (subst (λ x. NoItem (map (facts_of g.K.Kem) given) (IsOf x)) (sym is.id) (subst (λ z. NoItem z (IsOf me)) e own)))
    (subst (λ (h : History). IsFirstItem (map (facts_of g.K.Kem) given) (IsKnown (ids_named h) (map (facts_of g.K.Kem) given)) index) (sym (known-is g.K.Kem M c.args.seat.now is))
    (subst (λ z. IsFirstItem z (IsKnown (ids_named (history_of c.args.seat.now.history.now)) z) index) e
    c.in-Some-first_known.ensures))

pub returns-in-Some-first_of_other : goal.returns-in-Some-first_of_other
returns-in-Some-first_of_other g c = λ M given is e.
    let me = c.args.seat.now.me.0.0 in
    let index = c.in-Some-first_of_other.index in
    let card = c.card_at-in-Some-first_of_other in
    let fault = subst (λ z. NoItem z IsFaulty) e c.in_default.ensures in
    let own = found-none c.args.cards.now (IsOf me) c.first_own.result c.first_own.ensures
    (sym c.is_some.ensures ∙ c.if-is_some.false) in
    let there = subst (λ z. NoItem z (IsKnown (ids_named (history_of c.args.seat.now.history.now)) z)) e
    c.in_default-first_known.ensures in
    by-other g.K.Kem g.G.Membership.rule M given index card.result
    (subst (λ z. slice_get z index ≡ Some card.result) e card.ensures)
    (no-fault g.K.Kem g.G.Membership.rule M given fault)
    (no-own g.K.Kem g.G.Membership.rule M given
    (subst (λ x. NoItem (map (facts_of g.K.Kem) given) (IsOf x)) (sym is.id) (subst (λ z. NoItem z (IsOf me)) e own)))
    (no-known g.K.Kem g.G.Membership.rule M given
    (subst (λ (h : History). NoItem (map (facts_of g.K.Kem) given) (IsKnown (ids_named h) (map (facts_of g.K.Kem) given))) (sym (known-is g.K.Kem M c.args.seat.now is)) there))
    (subst (λ x. IsFirstItem (map (facts_of g.K.Kem) given) (IsOfOther x) index) (sym is.id)
    (subst (λ z. IsFirstItem z (IsOfOther me) index) e c.in-Some-first_of_other.ensures))

pub returns-in-None : goal.returns-in-None
returns-in-None g c = λ M given is e.
    let me = c.args.seat.now.me.0.0 in
    let fault = subst (λ z. NoItem z IsFaulty) e c.in_default.ensures in
    let own = found-none c.args.cards.now (IsOf me) c.first_own.result c.first_own.ensures
    (sym c.is_some.ensures ∙ c.if-is_some.false) in
    let there = subst (λ z. NoItem z (IsKnown (ids_named (history_of c.args.seat.now.history.now)) z)) e
    c.in_default-first_known.ensures in (
      no-fault g.K.Kem g.G.Membership.rule M given fault,
      (
        no-own g.K.Kem g.G.Membership.rule M given
            (subst (λ x. NoItem (map (facts_of g.K.Kem) given) (IsOf x)) (sym is.id) (subst (λ z. NoItem z (IsOf me)) e own)),
        (
          no-known g.K.Kem g.G.Membership.rule M given
              (subst (λ (h : History). NoItem (map (facts_of g.K.Kem) given) (IsKnown (ids_named h) (map (facts_of g.K.Kem) given))) (sym (known-is g.K.Kem M c.args.seat.now is)) there),
          (
            no-other g.K.Kem g.G.Membership.rule M given
                (subst (λ x. NoItem (map (facts_of g.K.Kem) given) (IsOfOther x)) (sym is.id) (subst (λ z. NoItem z (IsOfOther me)) e c.in-None.ensures)),
            tt,
          ),
        ),
      ),
    )
