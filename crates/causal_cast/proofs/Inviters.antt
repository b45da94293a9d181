-- The conditions of a kind read what cards say of the added member alone.
use Rattle.std.proofs.Common.{◌≡◌, Option, Some, List, refl, ◌∙◌}
use Rattle.group_model.specs.Sets.{Id}
use Rattle.group_model.specs.Messages.{Kind, Create, Update, Remove, Add, Ack, AddAck, Text, Message, History}
use Rattle.group_model.specs.Validity.{MeetsKind, GoesOn}

module _ (rule : History → List Id) (inviter other : Id → Option Id) (p : History) where
  pub meets-moved : (s : Id) (k : Kind) → ((y : Id) → k ≡ Add y → other y ≡ inviter y) → MeetsKind rule inviter p s k
      → MeetsKind rule other p s k
  meets-moved s (Create members) agree q = absurd q
  meets-moved s Update agree q = q
  meets-moved s (Remove y) agree q = q
  meets-moved s (Add y) agree q = (q.0, agree y refl ∙ q.1, q.2)
  meets-moved s (Ack i took) agree q = q
  meets-moved s (AddAck i) agree q = q
  meets-moved s Text agree q = q

  pub goes_on-moved : (m : Message) → ((y : Id) → m.kind ≡ Add y → other y ≡ inviter y) → GoesOn rule inviter p m
      → GoesOn rule other p m
  goes_on-moved m agree q =
      record {
        named = q.named;
        member = q.member;
        next = q.next;
        suits = meets-moved m.sender m.kind agree q.suits;
        in_turn = q.in_turn;
        heads = q.heads;
      }

-- who meets them by some card meets them where the card is left open
pub meets-open : (rule : History → List Id) (inviter : Id → Option Id) (p : History) (s : Id) (k : Kind)
    → MeetsKind rule inviter p s k → MeetsKind rule (λ y. Some s) p s k
meets-open rule inviter p s (Create members) q = absurd q
meets-open rule inviter p s Update q = q
meets-open rule inviter p s (Remove y) q = q
meets-open rule inviter p s (Add y) q = (q.0, refl, q.2)
meets-open rule inviter p s (Ack i took) q = q
meets-open rule inviter p s (AddAck i) q = q
meets-open rule inviter p s Text q = q
