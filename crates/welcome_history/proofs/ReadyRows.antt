-- Rows that a ready add hands on are a history.
use Rattle.std.proofs.Common.{◌≡◌, ℕ, suc, inl, inr, List, [], ◌∷◌, ◌++◌, Some, map, refl, sym, ap, subst}
use Rattle.group_fields.specs.declared.card.Card.{Card}
use Rattle.group_fields.specs.declared.header.Header.{Header}
use Rattle.group_messages.specs.Messages.{message_of}
use Rattle.group_model.specs.Sets.{Id}
use Rattle.group_model.specs.Messages.{Add, IsHistory}
use Rattle.causal_history.specs.Rows.{Row, history_of, row_message}
use Rattle.causal_history.proofs.RowFacts.{history-none, history-push}
use Rattle.member_view.specs.Causes.{Causes, IsFirst}
use Rattle.wire_codec.specs.Packets.{Packet, WelcomeRows}
use Rattle.causal_cast.specs.Verdicts.{from_rules}
use Rattle.causal_cast.specs.declared.verdict.Verdict.{Verdict}
use Rattle.causal_cast.specs.declared.verdict.Verdict.TheVariants.{BadWelcome, NotInvited, Ready}
use Rattle.welcome_history.specs.Joining.{Joining, first_verdicts, judging, message, on_history, on_kind, on_rows}
use Rattle.welcome_history.specs.Welcomes.{IsReadable, row_of, rows_of}
use Rattle.welcome_history.proofs.CardsFor.{append-more}

module _ (F : Joining) (packet : Packet) (cards : List Card) (more : Causes Verdict) where
  -- where none of the rows is what breaks, they are a history behind the older ones
  rows-history : (number : ℕ) (older : List Row) (headers : List Header) → IsHistory (history_of older)
      → IsFirst (on_rows F packet cards number older headers ++ more) Ready
      → IsHistory (history_of (older ++ map (row_of cards) headers))
  rows-history number older [] g first =
      subst (λ (z : List Row). IsHistory (history_of z)) (sym (append-none older)) g
    where
      append-none : {A : Type 0} (xs : List A) → xs ++ [] ≡ xs
      append-none [] = refl
      append-none (x ∷ xs) = ap (λ z. x ∷ z) (append-none xs)
  rows-history number older (header ∷ headers) g (inl broken) =
      absurd (let e : Ready ≡ BadWelcome number = broken.1 in cc)
  rows-history number older (header ∷ headers) g (inr rest) =
      let row = row_of cards header in
      let held = rest.0 in
      let pushed : IsHistory (row_message row ∷ history_of older) = (held.predecessors, held.fresh, g) in
      let next = rows-history (suc number) (older ++ row ∷ []) headers
      (subst IsHistory (sym (history-push older row)) pushed) rest.1 in
      subst (λ (z : List Row). IsHistory (history_of z)) (append-more older (row ∷ []) (map (row_of cards) headers)) next

none-history : IsHistory (history_of [])
none-history = subst IsHistory (sym history-none) tt

add-readable : (F : Joining) (packet : Packet) (welcome : WelcomeRows)
    → IsFirst (on_history F packet (Some welcome)) Ready → IsReadable welcome
add-readable F packet welcome (inl broken) = absurd (let e : Ready ≡ BadWelcome 0 = broken.1 in cc)
add-readable F packet welcome (inr rest) = record {
  history = rows-history F packet welcome.cards (from_rules (judging F (rows_of welcome)) packet) 1 [] welcome.rows
      none-history rest.1;
  cards = λ x i. (rest.0.named x).1 i;
}

invited : (F : Joining) (packet : Packet) → IsFirst (first_verdicts F packet) Ready
    → IsFirst (on_kind F packet (message F packet).kind) Ready
unfolding first_verdicts
invited F packet (inl n) = absurd (let e : Ready ≡ NotInvited = n.1 in cc)
invited F packet (inr rest) = rest.1

pub ready-readable : (F : Joining) (packet : Packet) (welcome : WelcomeRows) (y : Id)
    → (message_of packet.header).kind ≡ Add y → packet.history ≡ Some welcome
    → IsFirst (first_verdicts F packet) Ready → IsReadable welcome
ready-readable F packet welcome y add carried first =
    add-readable F packet welcome (subst (λ o. IsFirst (on_history F packet o) Ready) carried
    (subst (λ k. IsFirst (on_kind F packet k) Ready) add (invited F packet first)))
