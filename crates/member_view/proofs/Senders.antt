-- Senders of a history by their numbers.
use Rattle.std.proofs.Common.{IsTrue, ◌≡◌, ◌↔◌, ℕ, Bool, true, false, nat_eq, [], ◌∷◌, inl, inr, refl, sym, subst}
use Rattle.group_model.specs.Sets.{Id, In, here, IsDistinct}
use Rattle.group_model.specs.Messages.{Kind, Ack, Message, History}
use Rattle.group_model.specs.Marks.{HasNumber, IsPlace}
use Rattle.group_model.specs.Validity.{StepsRatchet}
use Rattle.group_model.proofs.Places.{place-one, place-distinct}
use Rattle.group_model.proofs.RemoveWins.{joined-distinct, joined-left, joined-right}
use Rattle.group_model.proofs.Verdicts.{says-equal}
use Rattle.causal_history.specs.Rows.{senders_of}

senders-distinct : (h : History) → IsDistinct (senders_of h)
senders-distinct [] = tt
senders-distinct (m ∷ older) = joined-distinct (senders_of older) (m.sender ∷ []) (senders-distinct older)

-- the numbers of two senders agree exactly where they are one
pub same-sender : (h : History) (n k : ℕ) (x y : Id) → IsPlace (senders_of h) n x → IsPlace (senders_of h) k y → IsTrue (nat_eq n k) ↔ (y ≡ x)
same-sender h n k x y e f = (
  λ t. place-one (senders_of h) k y x f (subst (λ z. IsPlace (senders_of h) z x) ((says-equal n k).holds t) e),
  λ d. (says-equal n k).told (place-distinct (senders_of h) (senders-distinct h) n k x e (subst (λ z. IsPlace (senders_of h) k z) d f)),
)

sender-in : (h : History) (i : ℕ) (m : Message) → HasNumber h i m → In m.sender (senders_of h)
sender-in [] i m r = absurd r
sender-in (l ∷ older) i m (inl e) = joined-right (senders_of older) (l.sender ∷ [])
    (subst (λ (z : Message). In z.sender (l.sender ∷ [])) (sym e.1) here)
sender-in (l ∷ older) i m (inr r) = joined-left (senders_of older) (l.sender ∷ []) (sender-in older i m r)

pub no-sender : (h : History) (i : ℕ) (m : Message) (x : Id) → HasNumber h i m → (In x (senders_of h) → ⊥) → IsTrue false ↔ (m.sender ≡ x)
no-sender h i m x r miss = (
  λ t. absurd (let e : false ≡ true = t in cc),
  λ d. absurd (miss (subst (λ z. In z (senders_of h)) d (sender-in h i m r))),
)

-- an ack steps its sender's ratchet exactly where it took the secret
pub ack-steps : (i : Id) (took : Bool) (k : Kind) → Ack i took ≡ k → IsTrue took ↔ StepsRatchet k
ack-steps i true k e = (λ t. subst StepsRatchet e tt, λ s. refl)
ack-steps i false k e = (λ t. absurd (let d : false ≡ true = t in cc), λ s. absurd (subst StepsRatchet (sym e) s))
