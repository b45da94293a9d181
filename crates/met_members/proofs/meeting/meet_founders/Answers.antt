use Rattle.std.proofs.Common.{List, [], subst}
use Rattle.std.specs.Prelude.{map}
use Rattle.std.proofs.lemmas.Result.{on_ok_weaker}
use Rattle.group_fields.specs.Cards.{card_id}
use Rattle.group_fields.specs.declared.card.Card.{Card}
use Rattle.group_model.specs.Membership.{joined}
use Rattle.met_members.specs.Meeting.{MeetsMore}
use Rattle.met_members.proofs.More.{none-met, none-new}
use Rattle.met_members.proofs.meeting.meet_founders.Goals as goal

pub meet_each-requires-clause-met : goal.meet_each-requires-clause-met
meet_each-requires-clause-met g c = (
  [],
  none-met c.args.me.now.0.0 c.args.book.now c.requires.none,
  none-new c.args.cards.now c.as_slice.result.now c.as_slice.ensures c.requires.distinct,
)

pub returns : goal.returns
returns g c =
    let me = c.args.me.now.0.0 in
    on_ok_weaker c.meet_each.result
    (λ more. subst (λ (z : List Card). MeetsMore g.K.Kem me z [] (joined [] (map card_id z)) c.args.book.now c.meet_each.new.book)
    c.as_slice.ensures (more [] (none-met me c.args.book.now c.requires.none)
    (none-new c.args.cards.now c.as_slice.result.now c.as_slice.ensures c.requires.distinct)))
    c.meet_each.ensures
