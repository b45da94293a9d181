-- Whom a message is due to whose body is still to be made.
use Rattle.std.proofs.Common.{◌≡◌, ◌↔◌, ℕ, Bool, false, List, [], ◌∷◌, refl, sym, subst, inl}
use Rattle.group_fields.specs.declared.header.Header.{Header}
use Rattle.group_fields.specs.declared.header.Kind.{Kind as HeaderKind}
use Rattle.group_fields.specs.declared.header.Kind.TheVariants as kinds
use Rattle.group_fields.specs.declared.header.Target.{Target}
use Rattle.group_model.specs.Sets.{Id, In}
use Rattle.group_model.specs.Messages.{Kind, Create, Update, Remove, Add, Ack, AddAck, Text, Message, History, Stands, IsHistory, AreHeads}
use Rattle.group_model.specs.Membership.{IsAddressee, IsMembershipRule, IsSeeded, ids_named}
use Rattle.group_model.specs.Marks.{IsCrowd, IsPlace}
use Rattle.group_model.proofs.Addressees.{addressee_moves}
use Rattle.group_model.proofs.ListFacts.{test, yes_is, no_is}
use Rattle.group_model.proofs.Pasts.{stands}
use Rattle.group_model.proofs.RemoveWins.{Named-ids_named}
use Rattle.group_messages.specs.Messages.{kind_by, kind_of, message_of}
use Rattle.causal_history.specs.Rows.{Row, history_of}
use Rattle.causal_history.proofs.RowFacts.{history-none}
use Rattle.member_view.specs.Crowds.{StandsWell}
use Rattle.causal_cast.proofs.CrowdSets.{crowd-by}
use Rattle.reference_member.proofs.RowsNamed.{addressee-named}
use Rattle.next_messages.specs.Due.{IsDueTo, IsNew, message_with}

-- a create over no rows stands well, as all else
pub stands-well : (rows : List Row) (m : Message) (k : HeaderKind) (t : Target) → (k ≡ kinds.Create → rows ≡ [])
    → StandsWell (history_of rows) m (kind_by k t)
stands-well rows m kinds.Create t empty = inl (subst (λ (z : List Row). history_of z ≡ []) (sym (empty refl)) history-none)
stands-well rows m kinds.Update t empty = tt
stands-well rows m kinds.Remove t empty = tt
stands-well rows m kinds.Add t empty = tt
stands-well rows m kinds.Ack t empty = tt
stands-well rows m kinds.AddAck t empty = tt
stands-well rows m kinds.Text t empty = tt

-- heads stand
pub heads-stand : (h : History) (ids : List Id) → AreHeads h ids → (i : Id) → In i ids → Stands h i
heads-stand h ids heads i k =
    let a = heads.only i k in
    subst (λ z. Stands h z) a.2 (stands a.1.there_is)

pub due : (rule : History → List Id) → IsMembershipRule rule
    → ((s : History → List Id) (h : History) (m : Message) → IsHistory (m ∷ h) → (y : Id)
    → IsAddressee s (m ∷ h) m m.kind y ↔ IsAddressee s h m m.kind y)
    → (rows : List Row) (header : Header) (bits : ℕ → Bool) → IsHistory (history_of rows)
    → ((i : Id) → In i (message_of header).predecessors → Stands (history_of rows) i)
    → IsNew rows (message_of header)
    → IsCrowd (ids_named (message_of header ∷ history_of rows)) bits
    (λ y. IsAddressee rule (history_of rows) (message_of header) (message_of header).kind y)
    → IsDueTo rule rows header bits
due rule is_rule serve rows header bits history stand new crowd = record {
  new = new;
  crowd = λ digest fresh.
      let h = history_of rows in
      let m = message_of header in
      let n = message_with header digest in
      let g : IsHistory (m ∷ h) = (stand, new, history) in
      let k : IsHistory (n ∷ h) = (stand, fresh, history) in
      crowd-by (ids_named (m ∷ h)) bits (λ y. IsAddressee rule h m m.kind y) (λ y. IsAddressee rule (n ∷ h) n n.kind y) crowd
      (λ y a. addressee_moves rule is_rule h m n.id n.body g k m.kind refl y ((serve rule h m g y).1 a))
      (λ y a. (serve rule h m g y).0 (addressee_moves rule is_rule h n m.id m.body k g m.kind refl y a));
}

-- who makes a message that sends a seed has no part of it
not-self : (rule : History → List Id) (h : History) (m : Message) (k : Kind) → IsSeeded k → (y : Id) → m.sender ≡ y
    → IsAddressee rule h m k y → ⊥
not-self rule h m (Create members) s y e a = a.other (sym e)
not-self rule h m Update s y e a = a.other (sym e)
not-self rule h m (Remove z) s y e a = a.other (sym e)
not-self rule h m (Add z) s y e a = s
not-self rule h m (Ack i took) s y e a = s
not-self rule h m (AddAck i) s y e a = s
not-self rule h m Text s y e a = s

pub maker-left_out : (rule : History → List Id) (rows : List Row) (header : Header) (bits : ℕ → Bool) → IsDueTo rule rows header bits
    → IsSeeded (kind_of header) → (p : ℕ) → IsPlace (ids_named (message_of header ∷ history_of rows)) p header.sender.0.0 → bits p ≡ false
maker-left_out rule rows header bits due seeded p at = elim (test (bits p)) [
  | no_is e ↦ e
  | yes_is e ↦
      let m = message_of header in
      absurd (not-self rule (m ∷ history_of rows) m (kind_of header) seeded m.sender refl
      (((due.crowd header.body due.new).each p m.sender at).0 e))
]

-- who is addressed has a place
pub addressed-placed : (rule : History → List Id) → IsMembershipRule rule → (h : History) (m : Message) (y : Id)
    → IsAddressee rule (m ∷ h) m m.kind y → In y (ids_named (m ∷ h))
addressed-placed rule is_rule h m y a = Named-ids_named (m ∷ h) y (addressee-named rule is_rule m h m.kind refl y a)
