use Rattle.std.proofs.Common.{[], inl, inr, sym, subst}
use Rattle.group_model.specs.Membership.{IsAddressee}
use Rattle.group_model.proofs.ListFacts.{In-cases, In-head, In-nothing}
use Rattle.next_messages.proofs.answer_laws.some_are_due_by_their_kind.Goals as goal

pub returns-clause-add : goal.returns-clause-add
returns-clause-add c = λ rule h m y kind. record {
  ascending = tt;
  all = λ z a. In-head [] (sym (subst (λ k. IsAddressee rule h m k z) kind a));
  only = λ z i. subst (λ k. IsAddressee rule h m k z) (sym kind) (elim (In-cases i) [
    | inl e ↦ sym e
    | inr n ↦ absurd (In-nothing n)
  ]);
}

pub returns-clause-text : goal.returns-clause-text
returns-clause-text c = λ rule h m kind. record {
  ascending = tt;
  all = λ z a. absurd (subst (λ k. IsAddressee rule h m k z) kind a);
  only = λ z i. absurd (In-nothing i);
}

pub returns-clause-refusal : goal.returns-clause-refusal
returns-clause-refusal c = λ rule h m o kind. record {
  ascending = tt;
  all = λ z a. absurd (subst (λ k. IsAddressee rule h m k z) kind a);
  only = λ z i. absurd (In-nothing i);
}
