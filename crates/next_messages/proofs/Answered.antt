-- The body of an answer, and of a text, is that of the reference member's next message.
use Rattle.std.proofs.Common.{◌≡◌, ℕ, ◌≤◌, Bool, true, List, [], ◌∷◌, ◌++◌, length, Some, None, refl, sym, ◌∙◌, ap, subst, arith}
use Rattle.kem_trait.specs.declared.kem.Kem.{Ghosts}
use Rattle.group_fields.specs.Layouts.{Spells}
use Rattle.group_fields.specs.declared.card.Card.{Card}
use Rattle.group_fields.specs.declared.header.Header.{Header}
use Rattle.group_fields.specs.declared.header.Kind.{Kind as HeaderKind}
use Rattle.group_fields.specs.declared.header.Kind.TheVariants as kinds
use Rattle.group_fields.specs.declared.header.Target.{Target}
use Rattle.group_model.specs.Sets.{Bytes, Id}
use Rattle.group_model.specs.Messages.{Ack, History}
use Rattle.group_model.specs.Primitives.{KeyPair, Primitives}
use Rattle.group_model.specs.Packets.{Given}
use Rattle.group_model.specs.Logs.{hist}
use Rattle.group_model.specs.Knowledge.{chain_known, text_sealed}
use Rattle.group_model.specs.Membership.{ids_named}
use Rattle.group_model.specs.Settings.{Owner}
use Rattle.group_model.proofs.Places.{place-in}
use Rattle.group_keys.specs.Primitives.{primitives_of}
use Rattle.group_messages.specs.Messages.{kind_by, kind_of}
use Rattle.causal_history.specs.Rows.{IsKept, cards_of}
use Rattle.wire_codec.specs.Packets as packets
use Rattle.wire_codec.specs.Packets.{AddressedPart, Body, Sealed, parts_body, text_body}
use Rattle.member_book.specs.Books.{BookState}
use Rattle.member_book.specs.BooksAfter.{payload_of}
use Rattle.member_book.specs.Places.{id_at}
use Rattle.member_book.specs.Standing.{MayStill, PartsSame, SendsSame}
use Rattle.two_party.specs.Drawn.{Drawn}
use Rattle.secret_book.specs.HeldBooks.{HeldBook}
use Rattle.book_standing.specs.Standing.{CallsStand, HeldStands}
use Rattle.body_parts.specs.Receivers.{ids_to}
use Rattle.body_parts.specs.Sending.{AreDrawnFrom, IsPartsBody}
use Rattle.app_messages.specs.Texts.{IsTextBody}
use Rattle.reference_member.specs.Members.{Member, known, own_id, own_pair}
use Rattle.reference_member.specs.Messages.{CarriesText, HandsOn}
use Rattle.next_messages.specs.Bodies.{GivesParts, HasNextBody, IsBookOf}
use Rattle.next_messages.proofs.Drawing.{receiver-at}
use Rattle.next_messages.proofs.Parts.{parts-are}
use Rattle.next_messages.proofs.Seeded.{has-card}

layout-is : (set greatest : ℕ) (k : HeaderKind) (target : Target) → GivesParts k greatest → parts_body set greatest ≡ packets.body set k target
unfolding packets.body
layout-is set greatest kinds.Create target s = absurd s
layout-is set greatest kinds.Update target s = absurd s
layout-is set greatest kinds.Remove target s = absurd s
layout-is set greatest kinds.Add target s = absurd s
layout-is set greatest kinds.Ack target s = ap (parts_body set) s
layout-is set greatest kinds.AddAck target s = ap (parts_body set) s
layout-is set greatest kinds.Text target s = absurd s

text-layout : (set : ℕ) (target : Target) → text_body ≡ packets.body set kinds.Text target
unfolding packets.body
text-layout set target = refl

-- a list of no length
none : {A : Type 0} (xs : List A) → length xs ≡ 0 → xs ≡ []
none [] e = refl
none (x ∷ xs) e = absurd (omega (arith, e))

module _ {K P : Type 0} (kem : Ghosts K P) (rule : History → List Id) (M : Member) (t : Given) where
  none-handed : (greatest : ℕ) (k : HeaderKind) (target : Target) → GivesParts k greatest → HandsOn kem rule M t (kind_by k target) None
  none-handed greatest kinds.Create target s = absurd s
  none-handed greatest kinds.Update target s = absurd s
  none-handed greatest kinds.Remove target s = absurd s
  none-handed greatest kinds.Add target s = absurd s
  none-handed greatest kinds.Ack target s = refl
  none-handed greatest kinds.AddAck target s = refl
  none-handed greatest kinds.Text target s = absurd s

  no-text : (greatest : ℕ) (k : HeaderKind) (target : Target) → GivesParts k greatest → CarriesText kem rule M t (kind_by k target) None
  no-text greatest kinds.Create target s = absurd s
  no-text greatest kinds.Update target s = absurd s
  no-text greatest kinds.Remove target s = absurd s
  no-text greatest kinds.Add target s = absurd s
  no-text greatest kinds.Ack target s = refl
  no-text greatest kinds.AddAck target s = refl
  no-text greatest kinds.Text target s = absurd s

  abbrev pub with_parts : List AddressedPart → Body
  with_parts parts = record { cards = []; parts = parts; history = None; text = None }

  module _ (header : Header) (greatest : ℕ) (gives : GivesParts header.kind greatest) (bits : ℕ → Bool) (payload : Bytes)
      (drawn : List Drawn) (before after : HeldBook) (bytes : Bytes)
      (made : IsPartsBody kem (ids_named (known M)) bits payload drawn before after bytes) (few : length made.parts ≤ greatest) where
    spells : Spells (packets.body kem.SET header.kind header.target) bytes (with_parts made.parts)
    spells = subst (λ z. Spells z bytes (with_parts made.parts)) (layout-is kem.SET greatest header.kind header.target gives)
        (made.spelled greatest few)

    pub answer-body : SendsSame → PartsSame → IsKept M.rows → (O : Owner) (state : BookState)
        → IsBookOf kem M (cards_of M.rows ++ []) O state → payload_of O t (kind_of header) state ≡ Some payload
        → ((i : Id) → kind_of header ≡ Ack i true → MayStill O.rule (hist M.log) i O.id)
        → (sealing : BookState) → sealing.events ≡ state.events → HeldStands kem O (ids_named (known M)) before sealing
        → AreDrawnFrom (primitives_of kem) t.random drawn (ids_to made.to)
        → HasNextBody kem rule M t [] header (ids_to made.to) (with_parts made.parts) bytes
    answer-body sends same kept O state book carries may sealing events stands drawn_from =
        let ids = ids_named (known M) in
        record {
          spelled = spells;
          cards_are = refl;
          parts = parts-are kem sends same M [] O state book t (kind_of header) payload carries sealing events may made.to drawn ids before
              after made.parts made.made stands made.receivers.placed drawn_from
              (λ y i. has-card M.rows kept [] y (place-in ids (receiver-at ids bits made.to made.receivers y i).0 y
              (receiver-at ids bits made.to made.receivers y i).1));
          written = made.made.written;
          handed_on = none-handed greatest header.kind header.target gives;
          text = no-text greatest header.kind header.target gives;
        }

    -- nobody's part
    pub silent-body : made.to ≡ [] → HasNextBody kem rule M t [] header [] (with_parts []) bytes
    silent-body nobody =
        let parts : made.parts ≡ [] = none made.parts (made.made.count ∙ ap length nobody) in
        record {
          spelled = subst (λ z. Spells (packets.body kem.SET header.kind header.target) bytes (with_parts z)) parts spells;
          cards_are = refl;
          parts = refl;
          written = refl;
          handed_on = none-handed greatest header.kind header.target gives;
          text = no-text greatest header.kind header.target gives;
        }

  -- the own chain by the log
  chain-is : (O : Owner) (state : BookState) (cards : List Card) → IsBookOf kem M cards O state
      → state.chain O.id ≡ chain_known (primitives_of kem) (own_pair kem M) (own_id kem M) M.log (own_id kem M)
  chain-is O state cards book =
      book.stands.chains O.id
      ∙ ap (λ (z : Primitives). chain_known z O.card O.id M.log O.id) book.primitives
      ∙ ap (λ (z : KeyPair). chain_known (primitives_of kem) z O.id M.log O.id) book.card
      ∙ ap (λ (z : Id). chain_known (primitives_of kem) (own_pair kem M) z M.log z) book.id

  pub text-body : (O : Owner) (state : BookState) (cards : List Card) → IsBookOf kem M cards O state → (ids : List Id) (p : ℕ)
      (before : HeldBook) → CallsStand kem O ids p before state → id_at ids p ≡ O.id → (header : Header) → header.kind ≡ kinds.Text
      → (bytes : Bytes) → IsTextBody (primitives_of kem) (before.chain p) t.text bytes
      → (carried : Body) × HasNextBody kem rule M t [] header [] carried bytes
  text-body O state cards book ids p before calls own header is bytes made =
      let carried : Body = record { cards = []; parts = []; history = None; text = Some made.carried } in
      let chain = calls.chain ∙ ap state.chain own ∙ chain-is O state cards book in (
        carried,
        record {
          spelled = subst (λ k. Spells (packets.body kem.SET k header.target) bytes carried) (sym is)
              (subst (λ z. Spells z bytes carried) (text-layout kem.SET header.target) made.spelled);
          cards_are = refl;
          parts = refl;
          written = refl;
          handed_on = subst (λ k. HandsOn kem rule M t (kind_by k header.target) None) (sym is) refl;
          text = subst (λ k. CarriesText kem rule M t (kind_by k header.target) (Some made.carried)) (sym is) (
            made.carried,
            refl,
            record {
              is = ap (λ c. text_sealed (primitives_of kem) c t.text) (sym chain) ∙ made.sealed;
            },
          );
        },
      )
