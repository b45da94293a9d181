use Rattle.std.proofs.Common.{◌≡◌, [], ◌∷◌, sym, ◌∙◌, subst, ap}
use Rattle.std.proofs.lemmas.Result.{on_ok_weaker}
use Rattle.group_model.specs.Sets.{Id, In, here}
use Rattle.group_model.specs.Membership.{with_id}
use Rattle.group_fields.specs.Cards.{card_id}
use Rattle.met_members.proofs.More.{met-one, with-new}
use Rattle.met_members.proofs.meeting.meet_card.Goals as goal

pub meet_one-requires-clause-met : goal.meet_one-requires-clause-met
meet_one-requires-clause-met g c = (
  c.requires.met.0,
  c.requires.met.1,
  subst (λ (z : Id). In z c.requires.met.0 → ⊥) (sym c.in_ok-id.ensures) c.requires.met.2,
)

pub returns : goal.returns
returns g c =
    let x = c.in_ok-id.id.0.0 in
    let own : x ≡ card_id c.args.card.now = c.in_ok-id.ensures in
    on_ok_weaker c.meet_one.result
    (λ one ids met fresh.
    let new = subst (λ (z : Id). In z ids → ⊥) (sym own) fresh in
    met-one g.K.Kem c.args.me.now.0.0 (c.args.card.now ∷ []) ids (with_id ids (card_id c.args.card.now)) x c.as_slice.result.now
    c.args.book.now c.meet_one.new.book (with-new ids x new ∙ ap (with_id ids) own)
    (λ O says. ap O.public_key own ∙ says c.args.card.now here ∙ sym c.as_slice.ensures)
    (one ids met new))
    c.meet_one.ensures
