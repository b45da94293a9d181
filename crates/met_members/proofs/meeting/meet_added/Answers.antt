use Rattle.std.proofs.Common.{List, [], ◌∷◌, sym, ◌∙◌, subst, ap}
use Rattle.std.proofs.lemmas.Result.{on_ok_weaker}
use Rattle.group_fields.specs.Cards.{card_id}
use Rattle.group_model.specs.Sets.{Id, In, here}
use Rattle.group_model.specs.Membership.{ids_named, with_id}
use Rattle.group_model.proofs.Places.{place-in}
use Rattle.causal_history.specs.Rows.{history_of}
use Rattle.met_members.specs.Meeting.{MeetsMore}
use Rattle.met_members.proofs.More.{met-none, met-one, with-new, with-old}
use Rattle.met_members.proofs.meeting.meet_added.Goals as goal

pub returns-in-Some : goal.returns-in-Some
returns-in-Some g c =
    let ids = ids_named (history_of c.args.history.now) in
    let x = card_id c.args.card.now in
    let there : In x ids = subst (λ (z : Id). In z ids) c.id-id.ensures (place-in ids c.in-Some.field-0 c.id-id.result.0.0 c.in-Some.ensures.place) in
    subst (λ (l : List Id). MeetsMore g.K.Kem c.args.me.now.0.0 (c.args.card.now ∷ []) ids l c.args.book.now c.args.book.now)
    (with-old ids x there) (met-none g.K.Kem c.args.me.now.0.0 (c.args.card.now ∷ []) ids c.args.book.now c.requires.met)

pub returns-in-None : goal.returns-in-None
returns-in-None g c =
    let ids = ids_named (history_of c.args.history.now) in
    let x = c.id-id.result.0.0 in
    let new : In x ids → ⊥ = c.in-None.ensures.place in
    on_ok_weaker c.meet_one.result
    (λ one. met-one g.K.Kem c.args.me.now.0.0 (c.args.card.now ∷ []) ids (with_id ids (card_id c.args.card.now)) x c.kem_public.result.now
    c.args.book.now c.meet_one.new.book (with-new ids x new ∙ ap (with_id ids) c.id-id.ensures)
    (λ O says. ap O.public_key c.id-id.ensures ∙ says c.args.card.now here ∙ sym c.kem_public.ensures)
    (one ids c.requires.met new))
    c.meet_one.ensures
