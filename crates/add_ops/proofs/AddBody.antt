-- The body of an add is joined of a card, a part and what is handed on.
use Rattle.std.proofs.Common.{◌≡◌, ℕ, true, List, [], ◌∷◌, ◌++◌, length, bytes_eq, Some, None, refl, ◌∙◌, ap, subst, append_assoc}
use Rattle.std.proofs.lemmas.Slice.Eq.{bytes_eq-Decides}
use Rattle.group_fields.specs.Cards.{card, card_id}
use Rattle.group_fields.specs.LayoutWrites.{Appends}
use Rattle.group_fields.specs.Layouts.{Spells}
use Rattle.group_fields.specs.declared.card.Card.{Card}
use Rattle.group_fields.specs.declared.ids.Digest.{Digest}
use Rattle.group_fields.specs.declared.ids.MemberId.{MemberId}
use Rattle.kem_trait.specs.declared.kem.Kem.{Ghosts}
use Rattle.group_model.specs.Sets.{Bytes}
use Rattle.group_model.specs.Membership.{ids_named}
use Rattle.group_model.proofs.ListFacts.{some_same}
use Rattle.causal_history.specs.Rows.{Row, history_of}
use Rattle.two_party.specs.Drawn.{Drawn}
use Rattle.secret_book.specs.HeldBooks.{HeldBook}
use Rattle.wire_codec.specs.Packets.{AddressedPart, WelcomeRows, add_body, card_named, history, id_of, part}
use Rattle.body_parts.specs.Sending.{AreMadeFor}
use Rattle.body_parts.specs.declared.addressing.Receiver.{Receiver}
use Rattle.welcome_history.specs.Welcomes.{IsWelcomeOf}
use Rattle.welcome_history.proofs.HandedOn.{of_set}
use Rattle.add_ops.specs.Making.{IsAddBody, added_to}

named : (set : ℕ) (bytes : List ℕ) (one : Card) → Spells card bytes one → one.set ≡ set → Spells (card_named set (id_of one)) bytes one
unfolding card_named
named set bytes one spelled own = (one, of_set set bytes one spelled own, (bytes_eq-Decides (card_id one) (card_id one)).1 refl, refl)

pub body_spelled : (set : ℕ) (one : Card) (card_bytes sealed : List ℕ) (welcome : WelcomeRows) (b0 b1 b2 b3 bytes : List ℕ) → Spells card card_bytes one
    → one.set ≡ set → b0 ≡ [] → b1 ≡ b0 ++ card_bytes → Appends (part set) sealed b1 b2 → Appends (history set) welcome b2 b3 → bytes ≡ b3
    → Spells (add_body set (record { 0 = id_of one })) bytes (record {
      cards = one ∷ [];
      parts = record { to = record { 0 = id_of one }; bytes = sealed } ∷ [];
      history = Some welcome;
      text = None;
    })
unfolding add_body
body_spelled set one card_bytes sealed welcome b0 b1 b2 b3 bytes spelled own none first second third is =
    let front : b1 ≡ card_bytes = first ∙ ap (λ (l : List ℕ). l ++ card_bytes) none in
    let whole : bytes ≡ card_bytes ++ (second.back ++ third.back) = is ∙ third.whole ∙ ap (λ (l : List ℕ). l ++ third.back) second.whole
    ∙ append_assoc b1 second.back third.back ∙ ap (λ (l : List ℕ). l ++ (second.back ++ third.back)) front in (
      (one, (sealed, welcome)),
      (
        card_bytes,
        second.back ++ third.back,
        whole,
        named set card_bytes one spelled own,
        (second.back, third.back, refl, second.spelled, third.spelled),
      ),
      refl,
      refl,
    )

pub receiver_is : (rows : List Row) (one : Card) (place : ℕ) (id : MemberId) → place ≡ length (ids_named (history_of rows)) → id.0.0 ≡ card_id one
    → (let r : Receiver = record { place = place; member = id } in r) ≡ added_to rows one
receiver_is rows one place id at own =
    ap (λ (n : ℕ). let r : Receiver = record { place = n; member = id } in r) at
    ∙ ap (λ (x : List ℕ). let r : Receiver = record { place = length (ids_named (history_of rows)); member = record { 0 = record { 0 = x } } } in r) own

-- ---- what an add is made of

module _ {K P : Type 0} (kem : Ghosts K P) where
  pub add_made : (rows : List Row) (one : Card) (payload ratchet : Bytes) (drawn : List Drawn) (before after : HeldBook) (to : Receiver)
      (card_bytes b0 b1 b2 b3 bytes : List ℕ) → Some payload ≡ Some ratchet → to ≡ added_to rows one → Spells card card_bytes one → one.set ≡ kem.SET
      → b0 ≡ [] → b1 ≡ b0 ++ card_bytes
      → ((sealed : Bytes) × Appends (part kem.SET) sealed b1 b2
      × AreMadeFor kem (to ∷ []) payload drawn before after (record { to = to.member; bytes = sealed } ∷ []))
      → ((welcome : WelcomeRows) × IsWelcomeOf rows welcome × Appends (history kem.SET) welcome b2 b3) → bytes ≡ b3
      → IsAddBody kem rows one ratchet drawn before after bytes
  add_made rows one payload ratchet drawn before after to card_bytes b0 b1 b2 b3 bytes known is spelled own none first (sealed, second, made) (welcome, of, third) end =
      let same : payload ≡ ratchet = some_same known in
      let to_it : AreMadeFor kem (added_to rows one ∷ []) payload drawn before after (record { to = record { 0 = id_of one }; bytes = sealed } ∷ []) =
      subst (λ (r : Receiver). AreMadeFor kem (r ∷ []) payload drawn before after (record { to = r.member; bytes = sealed } ∷ [])) is made in
      record {
        part = sealed;
        made = subst (λ (p : Bytes). AreMadeFor kem (added_to rows one ∷ []) p drawn before after (record { to = record { 0 = id_of one }; bytes = sealed } ∷ [])) same to_it;
        welcome = welcome;
        handed_on = of;
        spelled = body_spelled kem.SET one card_bytes sealed welcome b0 b1 b2 b3 bytes spelled own none first second third end;
      }
