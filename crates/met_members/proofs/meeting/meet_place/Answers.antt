use Rattle.std.proofs.Common.{◌≡◌, ◌+◌, true, take, sym, ◌∙◌, subst, ap}
use Rattle.std.proofs.lemmas.Result.{on_ok_weaker}
use Rattle.group_model.specs.Sets.{Bytes}
use Rattle.group_model.specs.Membership.{ids_named}
use Rattle.group_model.proofs.RemoveWins.{ids_named-distinct}
use Rattle.causal_history.specs.Rows.{cards_of, history_of}
use Rattle.met_members.proofs.More.{card-there, met-one, not-before, take-more}
use Rattle.met_members.proofs.meeting.meet_place.Goals as goal

pub meet_one-requires-clause-met : goal.meet_one-requires-clause-met
meet_one-requires-clause-met g c =
    let ids = ids_named (history_of c.args.history.now) in (
      take c.args.place ids,
      c.requires.met,
      not-before ids c.args.place c.member-id.result.0.0 (ids_named-distinct (history_of c.args.history.now)) c.member-id.ensures,
    )

pub meet_one-requires-clause-key : goal.meet_one-requires-clause-key
meet_one-requires-clause-key g c =
    let x = c.member-id.result.0.0 in
    subst (λ (k : Bytes). g.K.Kem.is_public k ≡ true) (sym c.kem_public.ensures)
    (c.requires.keys c.card-card.result (card-there c.args.history.now x c.card-card.result (c.card-card.ensures x c.member-id.ensures)))

pub returns : goal.returns
returns g c =
    let ids = ids_named (history_of c.args.history.now) in
    let x = c.member-id.result.0.0 in
    let card = c.card-card.result in
    let own = c.card-card.ensures x c.member-id.ensures in
    on_ok_weaker c.meet_one.result
    (λ one. met-one g.K.Kem c.args.me.now.0.0 (cards_of c.args.history.now) (take c.args.place ids) (take (c.args.place + 1) ids) x
    c.kem_public.result.now c.args.book.now c.meet_one.new.book (take-more ids c.args.place x c.member-id.ensures)
    (λ O says. ap O.public_key (sym (c.cards_are_of_their_ids.ensures.id c.args.history.now x card own))
    ∙ says card (card-there c.args.history.now x card own) ∙ sym c.kem_public.ensures)
    (one (take c.args.place ids) c.requires.met
    (not-before ids c.args.place x (ids_named-distinct (history_of c.args.history.now)) c.member-id.ensures)))
    c.meet_one.ensures
