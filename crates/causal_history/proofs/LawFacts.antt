-- Laws of senders and cards.
use Rattle.std.proofs.Common.{◌≡◌, ℕ, inl, inr, Bool, true, List, [], ◌∷◌, ◌++◌, Some, sym, ◌∙◌, ap, subst}
use Rattle.std.specs.Prelude.{find}
use Rattle.std.specs.Str.{bytes_eq}
use Rattle.std.proofs.lemmas.Slice.Eq.{bytes_eq-Decides}
use Rattle.group_fields.specs.Cards.{card_id}
use Rattle.group_fields.specs.declared.card.Card.{Card}
use Rattle.group_model.specs.Sets.{Id, In, here, there, IsDistinct}
use Rattle.group_model.specs.Messages.{Message, History, IsHistory}
use Rattle.group_model.specs.Membership.{ids_named}
use Rattle.group_model.specs.Marks.{MarksPast, marked}
use Rattle.group_model.proofs.ListFacts.{test, yes_is, no_is, In-cases, In-nothing}
use Rattle.group_model.proofs.Numbers.{past-marked}
use Rattle.group_model.proofs.RemoveWins.{joined-left, joined-right, joined-either, joined-distinct}
use Rattle.causal_history.specs.Rows.{Row, IsKept, cards_of, card_in, history_of, senders_of}
use Rattle.causal_history.proofs.Numbers.{marked-history}
use Rattle.causal_history.proofs.PushFacts.{card-named, cards_of-push, find-left}

pub senders-distinct : (h : History) → IsDistinct (senders_of h)
senders-distinct [] = tt
senders-distinct (m ∷ older) = joined-distinct (senders_of older) (m.sender ∷ []) (senders-distinct older)

pub senders-sent : (h : History) (x : Id) → In x (senders_of h) → (m : Message) × In m h × (m.sender ≡ x)
senders-sent [] x i = absurd (In-nothing i)
senders-sent (m ∷ older) x i = elim (joined-either (senders_of older) (m.sender ∷ []) i) [
  | inl k ↦ let r = senders-sent older x k in (r.0, there r.1, r.2)
  | inr k ↦ elim (In-cases k) [ inl e ↦ (m, here, sym e) | inr n ↦ absurd (In-nothing n) ]
]

pub sent-senders : (h : History) (x : Id) (m : Message) → In m h → m.sender ≡ x → In x (senders_of h)
sent-senders [] x m i e = elim i [ ]
sent-senders (n ∷ older) x m i e = elim (In-cases i) [
  | inl q ↦ joined-right (senders_of older) (n.sender ∷ [])
      (subst (λ z. In z (n.sender ∷ [])) (ap (λ (z : Message). z.sender) (sym q) ∙ e) here)
  | inr k ↦ joined-left (senders_of older) (n.sender ∷ []) (sent-senders older x m k e)
]

find-is : (p : Card → Bool) (xs : List Card) (c : Card) → find p xs ≡ Some c → In c xs × (p c ≡ true)
find-is p [] c e = absurd cc
find-is p (x ∷ xs) c e = elim (test (p x)) [
  | yes_is t ↦ let f : Some x ≡ Some c = rw t at e in let d : x ≡ c = cc in
      (subst (λ z. In z (x ∷ xs)) d here, ap p (sym d) ∙ t)
  | no_is f ↦ let r = find-is p xs c (rw f at e) in (there r.0, r.1)
]

pub card-id_is : (rows : List Row) (x : Id) (c : Card) → card_in rows x ≡ Some c → card_id c ≡ x
unfolding card_in
card-id_is rows x c e = (bytes_eq-Decides (card_id c) x).0 (find-is (λ (d : Card). bytes_eq (card_id d) x) (cards_of rows) c e).1

pub card-stays : (rows : List Row) (row : Row) (x : Id) (c : Card) → card_in rows x ≡ Some c → card_in (rows ++ row ∷ []) x ≡ Some c
unfolding card_in
card-stays rows row x c e =
    ap (find (λ (d : Card). bytes_eq (card_id d) x)) (cards_of-push rows row)
    ∙ find-left (λ (d : Card). bytes_eq (card_id d) x) (cards_of rows) row.cards c e

pub card-of_named : (rows : List Row) (x : Id) (c : Card) → IsKept rows → card_in rows x ≡ Some c → In x (ids_named (history_of rows))
unfolding card_in
card-of_named rows x c kept e =
    let r = find-is (λ (d : Card). bytes_eq (card_id d) x) (cards_of rows) c e in
    subst (λ z. In z (ids_named (history_of rows))) ((bytes_eq-Decides (card_id c) x).0 r.1) (card-named rows kept c r.0)

pub past-history_of : (h : History) (ids : List Id) (marks : ℕ → Bool) → IsHistory h → MarksPast h ids marks → IsHistory (marked marks h)
past-history_of h ids marks g k = marked-history h g ids marks (past-marked h ids marks g k)
