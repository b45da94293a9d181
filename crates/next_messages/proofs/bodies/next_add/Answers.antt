use Rattle.std.proofs.Common.{[], ◌∷◌, sym, subst}
use Rattle.group_fields.specs.Cards.{card_id}
use Rattle.group_model.specs.Sets.{Id, In}
use Rattle.group_model.proofs.ListFacts.{In-head}
use Rattle.next_messages.proofs.bodies.next_add.Goals as goal

pub make_add-requires-clause-can : goal.make_add-requires-clause-can
make_add-requires-clause-can g c = record {
  reach = c.requires.reach;
  draw = c.in_ok-drawn.ensures.left (card_id c.args.card.now) (In-head [] (sym c.id.ensures));
}

pub returns-clause-body : goal.returns-clause-body
returns-clause-body g c = λ ratchet e. record {
  drawn = c.in_ok-drawn.drawn;
  made = c.in_ok-make_add.ensures ratchet e;
  drawn_from = λ y i. c.in_ok-drawn.ensures.drawn y (subst (λ (z : Id). In y (z ∷ [])) (sym c.id.ensures) i);
}
