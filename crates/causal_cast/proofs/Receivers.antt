-- The parts of a message are for exactly its addressees where the places of both are the same.
use Rattle.std.proofs.Common.{◌≡◌, ℕ, Bool, true, false, inl, inr, List, ◌∷◌, refl, sym, ◌∙◌, subst}
use Rattle.group_model.specs.Sets.{Id, In, here, Within, IsAscending}
use Rattle.group_model.specs.Messages.{Kind, Create, Update, Remove, Add, Ack, AddAck, Text, Message, History}
use Rattle.group_model.specs.Messages.{with_past}
use Rattle.group_model.specs.Membership.{IsMembershipRule, Names, InView, IsAddressee, AreAddressees, ids_named}
use Rattle.group_model.specs.Marks.{IsCrowd}
use Rattle.group_model.proofs.ListFacts.{In-cases, In-head}
use Rattle.group_model.proofs.Pasts.{past-within}
use Rattle.group_model.proofs.Places.{in-place, crowd-one}
use Rattle.group_model.proofs.RemoveWins.{Named-ids_named}
use Rattle.group_model.proofs.Views.{Named-within}

module _ (rule : History → List Id) (is_rule : IsMembershipRule rule) (h : History) (m : Message) where
  view-within : Within (with_past (m ∷ h) m) (m ∷ h)
  view-within =
      record { each = λ i. elim (In-cases i) [ inl e ↦ In-head h e | inr j ↦ past-within (m ∷ h) m.predecessors j ] }

  pub view-placed : (y : Id) → InView rule (m ∷ h) m y → In y (ids_named (m ∷ h))
  view-placed y v =
      Named-ids_named (m ∷ h) y (Named-within view-within (is_rule.named (with_past (m ∷ h) m) y v))

  addressee-placed : (kind : Kind) → m.kind ≡ kind → (y : Id) → IsAddressee rule (m ∷ h) m kind y
      → In y (ids_named (m ∷ h))
  addressee-placed (Create members) e y a = view-placed y a.in_view
  addressee-placed Update e y a = view-placed y a.in_view
  addressee-placed (Remove z) e y a = view-placed y a.in_view
  addressee-placed (Add z) e y a =
      Named-ids_named (m ∷ h) y
      (record { by = m; there_is = here; names = subst (λ k. Names k y) (sym e) a })
  addressee-placed (Ack j true) e y a = view-placed y a.in_view
  addressee-placed (Ack j false) e y a = absurd a
  addressee-placed (AddAck j) e y a = view-placed y a.in_view
  addressee-placed Text e y a = absurd a

  pub parts-suit : (ids : List Id) (a b : ℕ → Bool) → IsAscending ids
      → ((y : Id) → In y ids → In y (ids_named (m ∷ h)))
      → IsCrowd (ids_named (m ∷ h)) a (λ y. In y ids)
      → IsCrowd (ids_named (m ∷ h)) b (λ y. IsAddressee rule (m ∷ h) m m.kind y)
      → ((p : ℕ) → a p ≡ b p) → AreAddressees rule (m ∷ h) m ids
  parts-suit ids a b up placed of_parts of_addressees same =
      record {
        ascending = up;
        all = λ y d. let at = in-place (ids_named (m ∷ h)) y (addressee-placed m.kind refl y d) in
            (of_parts.each at.0 y at.1).0 (same at.0 ∙ (of_addressees.each at.0 y at.1).1 d);
        only = λ y i. let at = in-place (ids_named (m ∷ h)) y (placed y i) in
            (of_addressees.each at.0 y at.1).0 (sym (same at.0) ∙ (of_parts.each at.0 y at.1).1 i);
      }

  pub parts-same : (ids : List Id) (a b : ℕ → Bool) → AreAddressees rule (m ∷ h) m ids
      → IsCrowd (ids_named (m ∷ h)) a (λ y. In y ids)
      → IsCrowd (ids_named (m ∷ h)) b (λ y. IsAddressee rule (m ∷ h) m m.kind y)
      → (p : ℕ) → a p ≡ b p
  parts-same ids a b suit of_parts of_addressees =
      crowd-one (ids_named (m ∷ h)) (λ y. In y ids) a b of_parts
      (record {
        each = λ p y at. (
          λ e. suit.all y ((of_addressees.each p y at).0 e),
          λ i. (of_addressees.each p y at).1 (suit.only y i),
        );
        within = of_addressees.within;
      })

  -- whom a part is for that the message is to have has a place
  pub parts-placed : (ids : List Id) → AreAddressees rule (m ∷ h) m ids → (y : Id) → In y ids
      → In y (ids_named (m ∷ h))
  parts-placed ids suit y i = addressee-placed m.kind refl y (suit.only y i)
