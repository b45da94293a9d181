use Rattle.std.proofs.Common.{◌≡◌, ◌⊎◌, inl, inr, sym, ◌∙◌, subst}
use Rattle.group_fields.specs.Headers.{Spells, spelling}
use Rattle.group_messages.proofs.HeaderFacts.{id_is, one_or_collision}
use Rattle.group_messages.proofs.laws.messages_are_of_one_header.Goals as goal

pub returns : goal.returns
returns c = record {
  id = id_is;
  one_header = λ a b x y e.
      c.headers_are_spelled_once.ensures.one_header (spelling b) a b (subst (λ z. Spells a z) e x) y;
  one_id = λ a b x y e. elim (one_or_collision (spelling a) (spelling b) (sym (id_is a) ∙ (e ∙ id_is b))) [
    | inl d ↦ inl (c.headers_are_spelled_once.ensures.one_header (spelling b) a b (subst (λ z. Spells a z) d x) y)
    | inr d ↦ inr d
  ];
}
