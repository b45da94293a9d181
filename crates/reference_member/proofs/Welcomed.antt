-- What a first packet that is ready tells of the rows that it hands on.
use Rattle.std.proofs.Common.{◌≡◌, ◌≢◌, ℕ, suc, List, [], ◌∷◌, ◌++◌, map, Option, Some, None, IsSome, refl, sym, ◌∙◌, ap, subst, inl, inr}
use Rattle.group_fields.specs.Cards.{card_id}
use Rattle.group_fields.specs.declared.card.Card.{Card}
use Rattle.group_fields.specs.declared.header.Header.{Header}
use Rattle.group_model.specs.Sets.{Id, In, here, there}
use Rattle.group_model.specs.Messages.{Kind, Create, Update, Remove, Add, Ack, AddAck, Text, Message, History, Stands, past}
use Rattle.group_model.specs.Membership.{Named, Names}
use Rattle.group_model.specs.Validity.{AllValid, AreUnforked, IsUnforked, MayFollow}
use Rattle.group_model.proofs.ListFacts.{In-cases, In-nothing}
use Rattle.group_model.proofs.Pasts.{past-within}
use Rattle.group_messages.specs.Messages.{message_of}
use Rattle.causal_history.specs.Rows.{Row, card_among, history_of}
use Rattle.causal_history.proofs.RowFacts.{history-none, history-push}
use Rattle.member_view.specs.Causes.{Causes, IsFirst}
use Rattle.wire_codec.specs.Packets.{Packet as ReadPacket, WelcomeRows}
use Rattle.causal_cast.specs.Judging.{Judging, inviter_by}
use Rattle.causal_cast.specs.Verdicts.{from_rules}
use Rattle.causal_cast.specs.declared.verdict.Verdict.{Verdict}
use Rattle.causal_cast.specs.declared.verdict.Verdict.TheVariants as answers
use Rattle.causal_cast.proofs.Begun.{begun-with, follows}
use Rattle.causal_cast.proofs.Inviters.{goes_on-moved}
use Rattle.welcome_history.specs.Joining.{CardsHold, EndHolds, IsInvitation, Joining, SuitsCreate, first_verdicts, judging, on_history, on_kind, on_rows}
use Rattle.welcome_history.specs.Welcomes.{before, cards_for, row_of, rows_of}
use Rattle.reference_member.proofs.OwnerForms.{first-of}
use Rattle.reference_member.proofs.RowsNamed.{append-more}

-- ---- the kind of a first packet

-- a first packet that is ready is a create or an add
pub data First (F : Joining) (packet : ReadPacket) : Type 0 where
  creating : (members : List Id) → (message_of packet.header).kind ≡ Create members → SuitsCreate F packet → First F packet
  adding : (y : Id) → (message_of packet.header).kind ≡ Add y → IsFirst (on_history F packet packet.history) answers.Ready
      → First F packet

pub record IsInvited (F : Joining) (packet : ReadPacket) : Type 0 where
  pub invitation : IsInvitation F packet
  pub first : First F packet

by-kind : (F : Joining) (packet : ReadPacket) (k : Kind) → (message_of packet.header).kind ≡ k
    → IsFirst (on_kind F packet k) answers.Ready → First F packet
by-kind F packet (Create members) e (inl n) = absurd (let d : answers.Ready ≡ answers.BadKind = n.1 in cc)
by-kind F packet (Create members) e (inr rest) = creating members e rest.0
by-kind F packet Update e x = absurd x
by-kind F packet (Remove y) e x = absurd x
by-kind F packet (Add y) e x = adding y e x
by-kind F packet (Ack o took) e x = absurd x
by-kind F packet (AddAck o) e x = absurd x
by-kind F packet Text e x = absurd x

pub invited : (F : Joining) (packet : ReadPacket) → IsFirst (first_verdicts F packet) answers.Ready → IsInvited F packet
unfolding first_verdicts
invited F packet (inl n) = absurd (let d : answers.Ready ≡ answers.NotInvited = n.1 in cc)
invited F packet (inr rest) = record {
  invitation = rest.0;
  first = by-kind F packet (message_of packet.header).kind refl rest.1;
}

-- ---- rows

nothing-more : {A : Type 0} (xs : List A) → xs ++ [] ≡ xs
nothing-more [] = refl
nothing-more (x ∷ xs) = ap (λ z. x ∷ z) (nothing-more xs)

-- the rows are valid by the cards of the welcome, nothing in them is forked, and the add follows them
pub record RowsHold (F : Joining) (packet : ReadPacket) (cards : List Card) (rows : List Row) (more : Causes Verdict) : Type 0 where
  pub valid : AllValid F.rule (inviter_by F.is_public cards) (history_of rows)
  pub unforked : AreUnforked (history_of rows)
  pub end : EndHolds rows (message_of packet.header)
  pub others : IsFirst more answers.Ready

module _ (F : Joining) (packet : ReadPacket) (cards : List Card) (more : Causes Verdict) where
  rows-hold : (number : ℕ) (older : List Row) (headers : List Header) → AllValid F.rule (inviter_by F.is_public cards) (history_of older)
      → AreUnforked (history_of older) → IsFirst (on_rows F packet cards number older headers ++ more) answers.Ready
      → RowsHold F packet cards (older ++ map (row_of cards) headers) more
  rows-hold number older [] v u (inl n) = absurd (let d : answers.Ready ≡ answers.BadWelcome number = n.1 in cc)
  rows-hold number older [] v u (inr rest) =
      subst (λ (z : List Row). RowsHold F packet cards z more) (sym (nothing-more older))
      (record { valid = v; unforked = u; end = rest.0; others = rest.1 })
  rows-hold number older (header ∷ headers) v u (inl n) = absurd (let d : answers.Ready ≡ answers.BadWelcome number = n.1 in cc)
  rows-hold number older (header ∷ headers) v u (inr rest) =
      let row = row_of cards header in
      let held = rest.0 in
      subst (λ (z : List Row). RowsHold F packet cards z more) (append-more older (row ∷ []) (map (row_of cards) headers))
      (rows-hold (suc number) (older ++ row ∷ []) headers
      (subst (AllValid F.rule (inviter_by F.is_public cards)) (sym (history-push older row)) (held.follows, v))
      (subst AreUnforked (sym (history-push older row)) (held.unforked, u)) rest.1)

-- ---- the whole welcome

pub record WelcomeHolds (F : Joining) (packet : ReadPacket) (welcome : WelcomeRows) : Type 0 where
  pub cards : CardsHold F welcome
  pub rows : RowsHold F packet welcome.cards (rows_of welcome) (from_rules (judging F (rows_of welcome)) packet)

pub welcome-holds : (F : Joining) (packet : ReadPacket) (welcome : WelcomeRows)
    → IsFirst (on_history F packet (Some welcome)) answers.Ready → WelcomeHolds F packet welcome
welcome-holds F packet welcome (inl n) = absurd (let d : answers.Ready ≡ answers.BadWelcome 0 = n.1 in cc)
welcome-holds F packet welcome (inr rest) = record {
  cards = rest.0;
  rows = rows-hold F packet welcome.cards (from_rules (judging F (rows_of welcome)) packet) 1 [] welcome.rows
      (subst (AllValid F.rule (inviter_by F.is_public welcome.cards)) (sym history-none) tt)
      (subst AreUnforked (sym history-none) tt) rest.1;
}

-- ---- the add over the rows

pub record Follows (J : Judging) (packet : ReadPacket) : Type 0 where
  pub valid : MayFollow J.rule (inviter_by J.is_public packet.cards) (history_of J.rows) (message_of packet.header)
  pub unforked : (Stands (history_of J.rows) (message_of packet.header).id → ⊥) → IsUnforked (history_of J.rows) (message_of packet.header)

pub add-follows : (J : Judging) (packet : ReadPacket) → IsFirst (from_rules J packet) answers.Ready → Follows J packet
add-follows J packet (inl n) = absurd (let d : answers.Ready ≡ answers.Stranger = n.1 in cc)
add-follows J packet (inr (named, inl n)) = absurd (let d : answers.Ready ≡ answers.NotMember = n.1 in cc)
add-follows J packet (inr (named, inr (member, inl n))) = absurd (let d : answers.Ready ≡ answers.Forked n.0 = n.2 in cc)
add-follows J packet (inr (named, inr (member, inr (alone, inl n)))) = absurd (let d : answers.Ready ≡ answers.BadOrder = n.1 in cc)
add-follows J packet (inr (named, inr (member, inr (alone, inr (order, inl n))))) =
    absurd (let d : answers.Ready ≡ answers.BadKind = n.1 in cc)
add-follows J packet (inr (named, inr (member, inr (alone, inr (order, inr (kind, rest)))))) =
    let h = history_of J.rows in
    let m = message_of packet.header in
    record {
      valid = follows J.rule (inviter_by J.is_public packet.cards) h m
          (begun-with h (past-within h m.predecessors named.0.there_is))
          (record {
            named = named.0;
            member = member;
            next = order.next;
            suits = kind.0;
            in_turn = order.in_turn;
            heads = order.heads;
          });
      unforked = λ new a i e d.
          alone a i (record { sender = e; seq = d; other = λ k. new (record { by = a; there_is = i; has_id = k }) });
    }

-- ---- by other words on the cards

pub may_follow-moved : (rule : History → List Id) (f g : Id → Option Id) (h : History) (m : Message)
    → ((y : Id) → Names m.kind y → g y ≡ f y) → MayFollow rule f h m → MayFollow rule g h m
may_follow-moved rule f g [] m same o = record {
  members = o.members;
  creates = o.creates;
  first = o.first;
  number = o.number;
  among = o.among;
  invited = λ y i. subst (λ (z : Option Id). IsSome z × (y ≢ m.sender → z ≡ Some m.sender))
      (sym (same y (subst (λ k. Names k y) (sym o.creates) i))) (o.invited y i);
}
may_follow-moved rule f g (l ∷ older) m same v =
    goes_on-moved rule f g (past (l ∷ older) m.predecessors) m (λ y e. same y (subst (λ k. Names k y) (sym e) refl)) v

pub all_valid-moved : (rule : History → List Id) (f g : Id → Option Id) (h : History) → ((y : Id) → Named h y → g y ≡ f y)
    → AllValid rule f h → AllValid rule g h
all_valid-moved rule f g [] same v = tt
all_valid-moved rule f g (m ∷ h) same v = (
  may_follow-moved rule f g h m (λ y n. same y (record { by = m; there_is = here; names = n })) v.0,
  all_valid-moved rule f g h (λ y n. same y (record { by = n.by; there_is = there n.there_is; names = n.names })) v.1,
)

-- ---- cards of the rows

behind : (o : Option Card) (cards : List Card) (card : Card) → In card cards → In card (before o cards)
behind None cards card i = i
behind (Some c) cards card i = there i

pub in-cards_for : (cards : List Card) (ids : List Id) (x : Id) (card : Card) → In x ids → card_among cards x ≡ Some card
    → In card (cards_for cards ids)
in-cards_for cards [] x card i e = absurd (In-nothing i)
in-cards_for cards (y ∷ ids) x card i e = elim (In-cases i) [
  | inl d ↦ subst (λ (z : Option Card). In card (before z (cards_for cards ids))) (sym e ∙ ap (λ z. card_among cards z) d) here
  | inr j ↦ behind (card_among cards y) (cards_for cards ids) card (in-cards_for cards ids x card j e)
]

pub ids-of-cards : (cards : List Card) (ids : List Id) → ((x : Id) → In x ids → In x (map card_id cards))
    → map card_id (cards_for cards ids) ≡ ids
ids-of-cards cards [] f = refl
ids-of-cards cards (x ∷ ids) f =
    let k = first-of cards x (f x here) in
    ap (λ (z : Option Card). map card_id (before z (cards_for cards ids))) k.first
    ∙ ap (λ (z : Id). z ∷ map card_id (cards_for cards ids)) k.own
    ∙ ap (λ (z : List Id). x ∷ z) (ids-of-cards cards ids (λ y i. f y (there i)))
