-- What a message has over its history it has over the history with itself.
use Rattle.std.proofs.Common.{◌≡◌, true, false, inl, inr, List, ◌∷◌, sym, ◌∙◌, ap, subst}
use Rattle.group_model.specs.Sets.{Id, In, there}
use Rattle.group_model.specs.Messages.{Kind, Create, Update, Remove, Add, Ack, AddAck, Text, Message, History}
use Rattle.group_model.specs.Messages.{IsHistory}
use Rattle.group_model.specs.Membership.{InView, IsRecipient, IsSeeded, IsAddressee, IsForwardedTo, IsHandedTo}
use Rattle.group_model.proofs.ListFacts.{In-cases}
use Rattle.group_model.proofs.Valids.{past-self, past-older}

module _ (rule : History → List Id) (h : History) (m : Message) (g : IsHistory (m ∷ h)) where
  view-out : (x : Id) → InView rule (m ∷ h) m x → InView rule h m x
  view-out x v = subst (λ z. In x (rule (m ∷ z))) (past-self m h g) v

  view-in : (x : Id) → InView rule h m x → InView rule (m ∷ h) m x
  view-in x v = subst (λ z. In x (rule (m ∷ z))) (sym (past-self m h g)) v

  recipient-out : (y : Id) → IsRecipient rule (m ∷ h) m y → IsRecipient rule h m y
  recipient-out y r = record { in_view = view-out y r.in_view; other = r.other }

  recipient-in : (y : Id) → IsRecipient rule h m y → IsRecipient rule (m ∷ h) m y
  recipient-in y r = record { in_view = view-in y r.in_view; other = r.other }

  -- a message of the history has the same recipients
  older-in : (o : Message) (y : Id) → In o h → IsRecipient rule h o y → IsRecipient rule (m ∷ h) o y
  older-in o y j r =
      record {
        in_view = subst (λ z. In y (rule (o ∷ z))) (sym (past-older m h g j)) r.in_view;
        other = r.other;
      }

  older-out : (o : Message) (y : Id) → In o h → IsRecipient rule (m ∷ h) o y → IsRecipient rule h o y
  older-out o y j r =
      record {
        in_view = subst (λ z. In y (rule (o ∷ z))) (past-older m h g j) r.in_view;
        other = r.other;
      }

  forwarded-in : (i : Id) (y : Id) → IsForwardedTo rule h i m y → IsForwardedTo rule (m ∷ h) i m y
  forwarded-in i y a =
      record {
        operation = a.operation;
        there_is = there a.there_is;
        has_id = a.has_id;
        seeded = a.seeded;
        in_view = view-in y a.in_view;
        no_recipient = λ r. a.no_recipient (older-out a.operation y a.there_is r);
        not_its_sender = a.not_its_sender;
        other = a.other;
      }

  handed-in : (i : Id) (y : Id) → IsHandedTo rule h i m y → IsHandedTo rule (m ∷ h) i m y
  handed-in i y a =
      record {
        operation = a.operation;
        there_is = there a.there_is;
        has_id = a.has_id;
        adds = a.adds;
        in_view = view-in y a.in_view;
      }

  pub addressee-in : (kind : Kind) (y : Id) → IsAddressee rule h m kind y → IsAddressee rule (m ∷ h) m kind y
  addressee-in (Create members) y a = recipient-in y a
  addressee-in Update y a = recipient-in y a
  addressee-in (Remove z) y a = recipient-in y a
  addressee-in (Add z) y a = a
  addressee-in (Ack j true) y a = forwarded-in j y a
  addressee-in (Ack j false) y a = a
  addressee-in (AddAck j) y a = handed-in j y a
  addressee-in Text y a = a

  pub addressee-out : (kind : Kind) → m.kind ≡ kind → (y : Id) → IsAddressee rule (m ∷ h) m kind y
      → IsAddressee rule h m kind y
  addressee-out (Create members) e y a = recipient-out y a
  addressee-out Update e y a = recipient-out y a
  addressee-out (Remove z) e y a = recipient-out y a
  addressee-out (Add z) e y a = a
  addressee-out (Ack j true) e y a = elim (In-cases a.there_is) [
    | inl d ↦ absurd (subst IsSeeded (ap (λ (z : Message). z.kind) d ∙ e) a.seeded)
    | inr q ↦ record {
      operation = a.operation;
      there_is = q;
      has_id = a.has_id;
      seeded = a.seeded;
      in_view = view-out y a.in_view;
      no_recipient = λ r. a.no_recipient (older-in a.operation y q r);
      not_its_sender = a.not_its_sender;
      other = a.other;
    }
  ]
  addressee-out (Ack j false) e y a = a
  addressee-out (AddAck j) e y a = elim (In-cases a.there_is) [
    | inl d ↦ absurd (let f : Add y ≡ AddAck j = sym a.adds ∙ ap (λ (z : Message). z.kind) d ∙ e in cc)
    | inr q ↦ record {
      operation = a.operation;
      there_is = q;
      has_id = a.has_id;
      adds = a.adds;
      in_view = view-out y a.in_view;
    }
  ]
  addressee-out Text e y a = a
