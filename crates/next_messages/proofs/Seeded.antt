-- The body of a create, an update or a remove is that of the reference member's next message.
use Rattle.std.proofs.Common.{◌≡◌, ℕ, ◌<◌, ◌≤◌, Bool, true, false, List, [], ◌∷◌, ◌++◌, length, map, Some, None, refl, sym, ◌∙◌, ap, subst, arith}
use Rattle.kem_trait.specs.declared.kem.Kem.{Ghosts}
use Rattle.group_fields.specs.Cards.{card_id}
use Rattle.group_fields.specs.Layouts.{Spells}
use Rattle.group_fields.specs.declared.card.Card.{Card}
use Rattle.group_fields.specs.declared.header.Header.{Header}
use Rattle.group_fields.specs.declared.header.Kind.{Kind as HeaderKind}
use Rattle.group_fields.specs.declared.header.Kind.TheVariants as kinds
use Rattle.group_fields.specs.declared.header.Target.{Target}
use Rattle.group_model.specs.Sets.{Bytes, Id, In}
use Rattle.group_model.specs.Messages.{Ack, History}
use Rattle.group_model.specs.KeyTerms.{seed_of}
use Rattle.group_model.specs.Packets.{Given}
use Rattle.group_model.specs.Membership.{ids_named}
use Rattle.group_model.specs.Settings.{Owner}
use Rattle.group_model.proofs.ListFacts.{In-left, In-right}
use Rattle.group_model.proofs.Places.{place-in}
use Rattle.group_model.proofs.RemoveWins.{ids_named-Named}
use Rattle.group_keys.specs.Primitives.{primitives_of}
use Rattle.group_messages.specs.Messages.{kind_by, kind_of}
use Rattle.causal_history.specs.Rows.{IsKept, Row, cards_of, history_of}
use Rattle.wire_codec.specs.Packets as packets
use Rattle.wire_codec.specs.Packets.{Body, create_body, id_of, members_named}
use Rattle.member_book.specs.Books.{BookState}
use Rattle.member_book.specs.BooksAfter.{payload_of}
use Rattle.member_book.specs.Standing.{PartsSame, SendsSame}
use Rattle.secret_book.specs.HeldBooks.{HeldBook}
use Rattle.book_standing.specs.Standing.{HeldStands}
use Rattle.body_parts.specs.Receivers.{ids_to}
use Rattle.group_ops.specs.Making.{placed_by, seeded_layout}
use Rattle.reference_member.specs.Members.{Member, known}
use Rattle.reference_member.specs.Messages.{CarriesText, HandsOn}
use Rattle.reference_member.proofs.RowsNamed.{named-card}
use Rattle.next_messages.specs.Bodies.{HasNextBody, IsBookOf, IsSeededNext, SendsSeed}
use Rattle.next_messages.proofs.Drawing.{receiver-at}
use Rattle.next_messages.proofs.Parts.{parts-are}

layout-is : (set : ℕ) (k : HeaderKind) (target : Target) (cards : List Card) → SendsSeed k target cards
    → seeded_layout set cards ≡ packets.body set k target
unfolding packets.body
layout-is set kinds.Create target [] s = absurd (omega (arith, s.1))
layout-is set kinds.Create target (card ∷ cards) s = ap (λ (z : Target). create_body set (members_named z)) (sym s.0)
layout-is set kinds.Update target [] s = refl
layout-is set kinds.Update target (card ∷ cards) s = absurd cc
layout-is set kinds.Remove target [] s = refl
layout-is set kinds.Remove target (card ∷ cards) s = absurd cc
layout-is set kinds.Add target cards s = absurd s
layout-is set kinds.Ack target cards s = absurd s
layout-is set kinds.AddAck target cards s = absurd s
layout-is set kinds.Text target cards s = absurd s

no-ack : (k : HeaderKind) (target : Target) (cards : List Card) → SendsSeed k target cards → (i : Id) → kind_by k target ≡ Ack i true → ⊥
no-ack kinds.Create target cards s i e = cc
no-ack kinds.Update target cards s i e = cc
no-ack kinds.Remove target cards s i e = cc
no-ack kinds.Add target cards s i e = s
no-ack kinds.Ack target cards s i e = s
no-ack kinds.AddAck target cards s i e = s
no-ack kinds.Text target cards s i e = s

carries-seed : (O : Owner) (t : Given) (state : BookState) (k : HeaderKind) (target : Target) (cards : List Card) → SendsSeed k target cards
    → payload_of O t (kind_by k target) state ≡ Some (seed_of O.primitives t.random)
carries-seed O t state kinds.Create target cards s = refl
carries-seed O t state kinds.Update target cards s = refl
carries-seed O t state kinds.Remove target cards s = refl
carries-seed O t state kinds.Add target cards s = absurd s
carries-seed O t state kinds.Ack target cards s = absurd s
carries-seed O t state kinds.AddAck target cards s = absurd s
carries-seed O t state kinds.Text target cards s = absurd s

pub map-both : {A B : Type 0} (f : A → B) (xs ys : List A) → map f (xs ++ ys) ≡ map f xs ++ map f ys
map-both f [] ys = refl
map-both f (x ∷ xs) ys = ap (λ z. f x ∷ z) (map-both f xs ys)

-- who has a place has a card
pub has-card : (rows : List Row) → IsKept rows → (cards : List Card) (y : Id) → In y (placed_by (ids_named (history_of rows)) cards)
    → In y (map card_id (cards_of rows ++ cards))
has-card rows kept [] y i =
    subst (λ z. In y z) (sym (map-both card_id (cards_of rows) []))
    (In-left (map card_id []) (named-card rows (λ row j. (kept.whole row j).cards) y (ids_named-Named (history_of rows) y i)))
has-card rows kept (card ∷ cards) y i =
    subst (λ z. In y z) (sym (map-both card_id (cards_of rows) (card ∷ cards))) (In-right (map card_id (cards_of rows)) i)

module _ {K P : Type 0} (kem : Ghosts K P) (rule : History → List Id) (M : Member) (t : Given) where
  none-handed : (k : HeaderKind) (target : Target) (cards : List Card) → SendsSeed k target cards → HandsOn kem rule M t (kind_by k target) None
  none-handed kinds.Create target cards s = refl
  none-handed kinds.Update target cards s = refl
  none-handed kinds.Remove target cards s = refl
  none-handed kinds.Add target cards s = absurd s
  none-handed kinds.Ack target cards s = absurd s
  none-handed kinds.AddAck target cards s = absurd s
  none-handed kinds.Text target cards s = absurd s

  no-text : (k : HeaderKind) (target : Target) (cards : List Card) → SendsSeed k target cards → CarriesText kem rule M t (kind_by k target) None
  no-text kinds.Create target cards s = refl
  no-text kinds.Update target cards s = refl
  no-text kinds.Remove target cards s = refl
  no-text kinds.Add target cards s = absurd s
  no-text kinds.Ack target cards s = absurd s
  no-text kinds.AddAck target cards s = absurd s
  no-text kinds.Text target cards s = absurd s

  pub seeded-body : SendsSame → PartsSame → IsKept M.rows → (cards : List Card) (O : Owner) (state : BookState)
      → IsBookOf kem M (cards_of M.rows ++ cards) O state → (header : Header) → SendsSeed header.kind header.target cards
      → (bits : ℕ → Bool) (before after : HeldBook) (bytes : Bytes)
      → HeldStands kem O (placed_by (ids_named (known M)) cards) before state
      → (p : ℕ) → p < length (placed_by (ids_named (known M)) cards) → bits p ≡ false
      → (made : IsSeededNext kem (ids_named (known M)) cards bits t.random before after bytes)
      → (carried : Body) × HasNextBody kem rule M t cards header (ids_to made.made.to) carried bytes
  seeded-body sends same kept cards O state book header seeds bits before after bytes stands p within out made =
      let ids = placed_by (ids_named (known M)) cards in
      let body = made.made in
      let few : length body.parts ≤ 31 = (let l = body.receivers.fewer p within out in let n = body.made.count in omega arith) in (
        record { cards = cards; parts = body.parts; history = None; text = None },
        record {
          spelled = subst (λ z. Spells z bytes (record { cards = cards; parts = body.parts; history = None; text = None }))
              (layout-is kem.SET header.kind header.target cards seeds) (body.spelled few);
          cards_are = refl;
          parts = parts-are kem sends same M cards O state book t (kind_of header) (seed_of (primitives_of kem) t.random)
              (carries-seed O t state header.kind header.target cards seeds ∙ ap (λ z. Some (seed_of z t.random)) book.primitives) state refl
              (λ i e. absurd (no-ack header.kind header.target cards seeds i e)) body.to made.drawn ids before after body.parts
              body.made stands body.receivers.placed made.drawn_from
              (λ y i. has-card M.rows kept cards y (place-in ids (receiver-at ids bits body.to body.receivers y i).0 y
              (receiver-at ids bits body.to body.receivers y i).1));
          written = body.made.written;
          handed_on = none-handed header.kind header.target cards seeds;
          text = no-text header.kind header.target cards seeds;
        },
      )
