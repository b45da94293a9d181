use Rattle.std.proofs.Common.{[], ◌∷◌}
use Rattle.group_model.proofs.Places.{place-distinct, place-joined, place-one}
use Rattle.causal_history.specs.Rows.{senders_of}
use Rattle.causal_history.proofs.LawFacts.{senders-distinct, senders-sent, sent-senders}
use Rattle.causal_history.proofs.laws.senders_have_one_number.Goals as goal

pub returns : goal.returns
returns c = record {
  distinct = senders-distinct;
  sent = λ h x. (senders-sent h x, λ k. sent-senders h x k.0 k.1 k.2);
  one_number = λ h x p q. place-distinct (senders_of h) (senders-distinct h) p q x;
  one_sender = λ h x y p. place-one (senders_of h) p x y;
  stays = λ h m x p e. place-joined (senders_of h) (m.sender ∷ []) p x e;
}
