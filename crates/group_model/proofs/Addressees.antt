-- Addressees depend neither on the id of the message nor on its body's digest.
use Rattle.std.proofs.Common.{◌≡◌, true, false, inl, inr, List, ◌∷◌, refl, sym, ◌∙◌, ap, subst}
use Rattle.group_model.specs.Sets.{Bytes, Id, In, here, there}
use Rattle.group_model.specs.Messages.{Kind, Create, Update, Remove, Add, Ack, AddAck, Text, Message, History, past, IsHistory}
use Rattle.group_model.specs.Membership.{IsMembershipRule, InView, IsRecipient, IsSeeded, IsAddressee, AreAddressees}
use Rattle.group_model.proofs.ListFacts.{In-cases}
use Rattle.group_model.proofs.Pasts.{with_past-history}
use Rattle.group_model.proofs.Valids.{past-self, past-older}

module _ (rule : History → List Id) (is_rule : IsMembershipRule rule) (h : History) (m : Message)
    (i : Id) (b : Bytes) (g : IsHistory (m ∷ h)) (k : IsHistory (record m { id = i; body = b } ∷ h)) where
  abbrev renamed : Message
  renamed = record m { id = i; body = b }

  view_moves : (x : Id) → InView rule (m ∷ h) m x → InView rule (renamed ∷ h) renamed x
  view_moves x v = subst (λ z. In x (rule (renamed ∷ z))) (sym (past-self renamed h k))
      (is_rule.newest_digests_unread (past h m.predecessors) m i b x
      (subst (λ z. IsHistory (m ∷ z)) (past-self m h g) (with_past-history (m ∷ h) g here))
      (subst (λ z. IsHistory (renamed ∷ z)) (past-self renamed h k) (with_past-history (renamed ∷ h) k here))
      (subst (λ z. In x (rule (m ∷ z))) (past-self m h g) v))

  recipient_moves : (y : Id) → IsRecipient rule (m ∷ h) m y → IsRecipient rule (renamed ∷ h) renamed y
  recipient_moves y r = record { in_view = view_moves y r.in_view; other = r.other }

  -- a message of the history has the same recipients
  older_moves : (o : Message) (y : Id) → In o h → IsRecipient rule (renamed ∷ h) o y → IsRecipient rule (m ∷ h) o y
  older_moves o y j r = record {
    other = r.other;
    in_view = subst (λ z. In y (rule (o ∷ z))) (past-older renamed h k j ∙ sym (past-older m h g j)) r.in_view;
  }

  pub addressee_moves : (kind : Kind) → m.kind ≡ kind → (y : Id) → IsAddressee rule (m ∷ h) m kind y
      → IsAddressee rule (renamed ∷ h) renamed kind y
  addressee_moves (Create members) e y a = recipient_moves y a
  addressee_moves Update e y a = recipient_moves y a
  addressee_moves (Remove z) e y a = recipient_moves y a
  addressee_moves (Add z) e y a = a
  addressee_moves (Ack j true) e y a = elim (In-cases a.there_is) [
    | inl d ↦ absurd (subst IsSeeded (ap (λ (z : Message). z.kind) d ∙ e) a.seeded)
    | inr q ↦ record {
      operation = a.operation;
      there_is = there q;
      has_id = a.has_id;
      seeded = a.seeded;
      in_view = view_moves y a.in_view;
      no_recipient = λ r. a.no_recipient (older_moves a.operation y q r);
      not_its_sender = a.not_its_sender;
      other = a.other;
    }
  ]
  addressee_moves (Ack j false) e y a = a
  addressee_moves (AddAck j) e y a = elim (In-cases a.there_is) [
    | inl d ↦ absurd (let f : Add y ≡ AddAck j = sym a.adds ∙ ap (λ (z : Message). z.kind) d ∙ e in cc)
    | inr q ↦ record {
      operation = a.operation;
      there_is = there q;
      has_id = a.has_id;
      adds = a.adds;
      in_view = view_moves y a.in_view;
    }
  ]
  addressee_moves Text e y a = a

pub addressees_move : (rule : History → List Id) → IsMembershipRule rule → (h : History) (m : Message) (i : Id) (b : Bytes) (ids : List Id)
    → IsHistory (m ∷ h) → IsHistory (record m { id = i; body = b } ∷ h) → AreAddressees rule (m ∷ h) m ids
    → AreAddressees rule (record m { id = i; body = b } ∷ h) (record m { id = i; body = b }) ids
addressees_move rule r h m i b ids g k a = record {
  ascending = a.ascending;
  all = λ y d. a.all y (addressee_moves rule r h (record m { id = i; body = b }) m.id m.body k g m.kind refl y d);
  only = λ y j. addressee_moves rule r h m i b g k m.kind refl y (a.only y j);
}
