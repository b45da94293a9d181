-- Rows that may stand behind older ones.
use Rattle.std.proofs.Common.{◌≡◌, ℕ, Bool, List, [], ◌∷◌, Option, Some, None}
use Rattle.std.proofs.Common.{refl, sym, ◌∙◌, ap, subst, bytes_eq}
use Rattle.group_fields.specs.Cards.{card_id}
use Rattle.group_fields.specs.declared.card.Card.{Card}
use Rattle.group_fields.specs.declared.header.Header.{Header}
use Rattle.group_model.specs.Sets.{Id, In}
use Rattle.group_model.specs.Messages.{Kind, Create, Update, Remove, Add, Ack, AddAck, Text, Message, History}
use Rattle.group_model.specs.Messages.{Stands, past}
use Rattle.group_model.specs.Validity.{MeetsKind, MayFollow, IsInvited, IsUnforked}
use Rattle.group_model.proofs.ListFacts.{test, yes_is, no_is, some_same}
use Rattle.group_messages.specs.Messages.{message_of}
use Rattle.causal_history.specs.Rows.{Row, card_among, history_of}
use Rattle.member_view.specs.Causes.{GivesNone}
use Rattle.member_view.specs.Rules.{ForksNone, any_inviter, rule_causes}
use Rattle.member_view.proofs.FaultLaws.{create-taken, no-fault}
use Rattle.wire_codec.specs.Order.{AreOfSet}
use Rattle.causal_cast.specs.Judging.{inviter_by, inviter_in}
use Rattle.causal_cast.proofs.Inviters.{goes_on-moved, meets-open}
use Rattle.welcome_history.specs.Joining.{Joining, RowHolds}

-- ---- cards

pub among-of_set : (set : ℕ) (cards : List Card) (card : Card) (y : Id) → AreOfSet set cards
    → card_among cards y ≡ Some card → card.set ≡ set
among-of_set set [] card y a e = absurd cc
among-of_set set (first ∷ cards) card y a e = elim (test (bytes_eq (card_id first) y)) [
  | yes_is t ↦ (let d : first ≡ card = some_same (rw t at e) in subst (λ c. c.set ≡ set) d a.0)
  | no_is t ↦ among-of_set set cards card y a.2 (rw t at e)
]

module _ (is_public : List ℕ → Bool) where
  -- where a card is the id's, it says who the inviter is
  pub by-card : (cards : List Card) (card : Card) (y : Id) → card_among cards y ≡ Some card
      → inviter_by is_public cards y ≡ inviter_in is_public card
  by-card [] card y e = absurd cc
  by-card (first ∷ cards) card y e = elim (test (bytes_eq (card_id first) y)) [
    | yes_is t ↦ (let d : first ≡ card = some_same (rw t at e) in rw t (ap (inviter_in is_public) d))
    | no_is t ↦ rw t (by-card cards card y (rw t at e))
  ]

  pub by-nobody : (cards : List Card) (y : Id) → card_among cards y ≡ None → inviter_by is_public cards y ≡ None
  by-nobody [] y e = refl
  by-nobody (first ∷ cards) y e = elim (test (bytes_eq (card_id first) y)) [
    | yes_is t ↦ absurd (let f : Some first ≡ None = rw t at e in cc)
    | no_is t ↦ rw t (by-nobody cards y (rw t at e))
  ]

-- ---- inviters

-- the cards let the sender take in those whom the kind names
abbrev pub Invites : (inviter : Id → Option Id) → Id → Kind → Type 0
Invites inviter s k =
    ((y : Id) → k ≡ Add y → inviter y ≡ Some s)
    × ((members : List Id) → k ≡ Create members → (y : Id) → In y members → IsInvited inviter s y)

create-invites : (inviter : Id → Option Id) (s : Id) (members : List Id)
    → ((y : Id) → In y members → IsInvited inviter s y) → Invites inviter s (Create members)
create-invites inviter s members f = (
  λ y e. absurd cc,
  λ others e. let d : members ≡ others = cc in subst (λ z. (y : Id) → In y z → IsInvited inviter s y) d f,
)

-- ---- rules

module _ (rule : History → List Id) (inviter : Id → Option Id) where
  -- what follows with the cards left open follows by cards that invite
  pub follows-by : (h : History) (m : Message) → MayFollow rule (any_inviter m) h m → Invites inviter m.sender m.kind
      → MayFollow rule inviter h m
  follows-by [] m f i = record {
    members = f.members;
    creates = f.creates;
    first = f.first;
    number = f.number;
    among = f.among;
    invited = i.1 f.members f.creates;
  }
  follows-by (l ∷ older) m f i = goes_on-moved rule (any_inviter m) inviter (past (l ∷ older) m.predecessors) m i.0 f

  meets-invites : (p : History) (s : Id) (k : Kind) → MeetsKind rule inviter p s k → Invites inviter s k
  meets-invites p s (Create members) q = absurd q
  meets-invites p s Update q = (λ y e. absurd cc, λ members e. absurd cc)
  meets-invites p s (Remove z) q = (λ y e. absurd cc, λ members e. absurd cc)
  meets-invites p s (Add z) q = (
    λ y e. let d : z ≡ y = cc in subst (λ x. inviter x ≡ Some s) d q.1,
    λ members e. absurd cc,
  )
  meets-invites p s (Ack o took) q = (λ y e. absurd cc, λ members e. absurd cc)
  meets-invites p s (AddAck o) q = (λ y e. absurd cc, λ members e. absurd cc)
  meets-invites p s Text q = (λ y e. absurd cc, λ members e. absurd cc)

  -- what follows by cards has them invite
  pub follows-invites : (h : History) (m : Message) → MayFollow rule inviter h m → Invites inviter m.sender m.kind
  follows-invites [] m f =
      subst (Invites inviter m.sender) (sym f.creates)
      (create-invites inviter m.sender f.members f.invited)
  follows-invites (l ∷ older) m f = meets-invites (past (l ∷ older) m.predecessors) m.sender m.kind f.suits

  -- what follows by cards breaks no rule with the cards left open
  pub follows-none : (h : History) (m : Message) → MayFollow rule inviter h m → ForksNone h m
      → GivesNone (rule_causes rule h m)
  unfolding rule_causes
  follows-none [] m f n =
      create-taken rule m f.members (sym f.creates) (record {
        members = f.members;
        creates = f.creates;
        first = f.first;
        number = f.number;
        among = f.among;
        invited = λ y i. (refl, λ o. refl);
      })
  follows-none (l ∷ older) m f n =
      no-fault rule (l ∷ older) (past (l ∷ older) m.predecessors) m f.named f.member n
      (record { next = f.next; in_turn = f.in_turn; heads = f.heads })
      (meets-open rule inviter (past (l ∷ older) m.predecessors) m.sender m.kind f.suits)

-- ---- forks

-- a new message forks with none where no other has its sender and its number
pub unforked : (h : History) (m : Message) → (Stands h m.id → ⊥) → ForksNone h m → IsUnforked h m
unforked h m fresh n a i s q =
    n a i (record { sender = s; seq = q; other = λ e. fresh (record { by = a; there_is = i; has_id = e }) })

pub forks-none : (h : History) (m : Message) → IsUnforked h m → ForksNone h m
forks-none h m u a i f = u a i f.sender f.seq

-- ---- rows

-- The row stands in its place: it is of the set and of the group, new, and behind its predecessors.
abbrev pub IsPlaced : (set : ℕ) → (group : Id) → List Row → Header → Type 0
IsPlaced set group older header =
    (header.set ≡ set) × (header.group.0.0 ≡ group)
    × (Stands (history_of older) (message_of header).id → ⊥)
    × ((i : Id) → In i (message_of header).predecessors → Stands (history_of older) i)

module _ (F : Joining) (rule : History → List Id) (set : ℕ) (is_public : List ℕ → Bool) (by_rule : F.rule ≡ rule)
    (of_set : F.set ≡ set) (by_public : F.is_public ≡ is_public) (group : Id) (cards : List Card) (older : List Row)
    (header : Header) where
  -- It is valid over its past by the cards, and forks with none.
  abbrev pub IsValid : Type 0
  IsValid =
      MayFollow rule (inviter_by is_public cards) (history_of older) (message_of header)
      × ForksNone (history_of older) (message_of header)

  pub holds : IsPlaced set group older header → IsValid → RowHolds F group cards older header
  holds p v = record {
    fresh = p.2;
    unforked = unforked (history_of older) (message_of header) p.2 v.1;
    of_set = p.0 ∙ sym of_set;
    of_group = p.1;
    predecessors = p.3;
    follows =
        subst (λ r. MayFollow r (inviter_by F.is_public cards) (history_of older) (message_of header)) (sym by_rule)
        (subst (λ q. MayFollow rule (inviter_by q cards) (history_of older) (message_of header)) (sym by_public) v.0);
  }

  pub holds-placed : RowHolds F group cards older header → IsPlaced set group older header
  holds-placed r = (r.of_set ∙ of_set, r.of_group, r.fresh, r.predecessors)

  pub holds-valid : RowHolds F group cards older header → IsValid
  holds-valid r = (
    subst (λ q. MayFollow rule (inviter_by q cards) (history_of older) (message_of header)) by_public
        (subst (λ z. MayFollow z (inviter_by F.is_public cards) (history_of older) (message_of header)) by_rule
        r.follows),
    forks-none (history_of older) (message_of header) r.unforked,
  )
