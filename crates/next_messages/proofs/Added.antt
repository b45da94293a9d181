-- The body of an add is that of the reference member's next message.
use Rattle.std.proofs.Common.{◌≡◌, inl, inr, true, ℕ, List, [], ◌∷◌, ◌++◌, length, map, Some, None, refl, sym, ◌∙◌, ap, subst}
use Rattle.kem_trait.specs.declared.kem.Kem.{Ghosts}
use Rattle.group_fields.specs.Cards.{card_id}
use Rattle.group_fields.specs.Layouts.{Spells}
use Rattle.group_fields.specs.declared.card.Card.{Card}
use Rattle.group_fields.specs.declared.header.Header.{Header}
use Rattle.group_fields.specs.declared.header.Kind.TheVariants as kinds
use Rattle.group_fields.specs.declared.header.Target.TheVariants as targets
use Rattle.group_model.specs.Sets.{Bytes, Id, In}
use Rattle.group_model.specs.Messages.{Ack, Add, History}
use Rattle.group_model.specs.Marks.{IsPlace}
use Rattle.group_model.specs.Packets.{Given}
use Rattle.group_model.specs.Membership.{ids_named}
use Rattle.group_model.specs.Settings.{Owner}
use Rattle.group_model.proofs.ListFacts.{In-cases, In-nothing, In-right}
use Rattle.group_messages.specs.Messages.{kind_by, kind_of}
use Rattle.causal_history.specs.Rows.{cards_of}
use Rattle.wire_codec.specs.Packets as packets
use Rattle.wire_codec.specs.Packets.{Body, add_body, id_of}
use Rattle.member_book.specs.Books.{BookState}
use Rattle.member_book.specs.BooksAfter.{payload_of}
use Rattle.member_book.specs.Places.{id_at}
use Rattle.member_book.specs.Standing.{PartsSame, SendsSame}
use Rattle.secret_book.specs.HeldBooks.{HeldBook}
use Rattle.book_standing.specs.Standing.{CallsStand, HeldStands}
use Rattle.body_parts.specs.declared.addressing.Receiver.{Receiver}
use Rattle.body_parts.specs.Receivers.{id_to}
use Rattle.add_ops.specs.Making.{added_to}
use Rattle.reference_member.specs.Members.{Member, known}
use Rattle.reference_member.specs.Messages.{CarriesText, HandsOn}
use Rattle.next_messages.specs.Bodies.{HasNextBody, IsAddNext, IsBookOf}
use Rattle.next_messages.proofs.Parts.{parts-are}
use Rattle.next_messages.proofs.Seeded.{map-both}

add-layout : (set : ℕ) (card : Card) → add_body set (record { 0 = id_of card })
    ≡ packets.body set kinds.Add (targets.Member (record { 0 = id_of card }))
unfolding packets.body
add-layout set card = refl

-- the place behind the last
behind : (ids : List Id) (y : Id) → IsPlace (ids ++ y ∷ []) (length ids) y
behind [] y = refl
behind (i ∷ ids) y = behind ids y

module _ {K P : Type 0} (kem : Ghosts K P) (rule : History → List Id) (M : Member) (t : Given) (card : Card) where
  abbrev y : Id
  y = card_id card

  abbrev ids : List Id
  ids = ids_named (known M) ++ y ∷ []

  pub add-body : SendsSame → PartsSame → (O : Owner) (state : BookState) → IsBookOf kem M (cards_of M.rows ++ card ∷ []) O state
      → (header : Header) → header.kind ≡ kinds.Add → header.target ≡ targets.Member (record { 0 = id_of card })
      → (me : ℕ) (before after : HeldBook) (ratchet bytes : Bytes)
      → HeldStands kem O (ids_named (known M) ++ card_id card ∷ []) before state
      → CallsStand kem O (ids_named (known M) ++ card_id card ∷ []) me before state
      → id_at (ids_named (known M) ++ card_id card ∷ []) me ≡ O.id → before.ratchet me ≡ Some ratchet
      → IsAddNext kem M.rows card ratchet t.random before after bytes
      → (carried : Body) × HasNextBody kem rule M t (card ∷ []) header (card_id card ∷ []) carried bytes
  add-body sends same O state book header is about me before after ratchet bytes stands calls own known_ratchet made =
      let carried : Body = record {
        cards = card ∷ [];
        parts = record { to = record { 0 = id_of card }; bytes = made.made.part } ∷ [];
        history = Some made.made.welcome;
        text = None;
      } in
      let adds : kind_of header ≡ Add y =
      ap (λ k. kind_by k header.target) is ∙ ap (kind_by kinds.Add) about in
      let laid : packets.body kem.SET header.kind header.target ≡ add_body kem.SET (record { 0 = id_of card }) =
      ap (λ k. packets.body kem.SET k header.target) is ∙ ap (packets.body kem.SET kinds.Add) about ∙ sym (add-layout kem.SET card) in
      let to : List Receiver = added_to M.rows card ∷ [] in (
        carried,
        record {
          spelled = subst (λ z. Spells z bytes carried) (sym laid) made.made.spelled;
          cards_are = refl;
          parts = parts-are kem sends same M (card ∷ []) O state book t (kind_of header) ratchet
              (ap (λ k. payload_of O t k state) adds ∙ ap state.ratchet (sym own) ∙ sym calls.ratchet ∙ known_ratchet) state refl
              (λ i e. absurd (let f : Add y ≡ Ack i true = sym adds ∙ e in cc)) to made.drawn ids before after carried.parts
              made.made.made stands
              (λ r i. elim (In-cases i) [
                | inl e ↦ subst (λ (z : Receiver). IsPlace ids z.place (id_to z)) (sym e) (behind (ids_named (known M)) y)
                | inr n ↦ absurd (In-nothing n)
              ])
              made.drawn_from
              (λ z i. subst (λ l. In z l) (sym (map-both card_id (cards_of M.rows) (card ∷ []))) (In-right (map card_id (cards_of M.rows)) i));
          written = made.made.made.written;
          handed_on = subst (λ k. HandsOn kem rule M t k (Some made.made.welcome)) (sym adds) (made.made.welcome, refl, made.made.handed_on);
          text = subst (λ k. CarriesText kem rule M t k None) (sym adds) refl;
        },
      )
