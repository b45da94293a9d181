-- Parts that a book makes are those of the log that it stands for.
use Rattle.std.proofs.Common.{◌≡◌, List, [], ◌∷◌, ◌++◌, Option, Some, map, true, refl, sym, ◌∙◌, ap}
use Rattle.std.specs.Option.{option_and_then, option_map_or}
use Rattle.kem_trait.specs.declared.kem.Kem.{Ghosts}
use Rattle.group_fields.specs.Cards.{card_id}
use Rattle.group_fields.specs.declared.card.Card.{Card}
use Rattle.group_model.specs.Sets.{Bytes, Id, In, here, there}
use Rattle.group_model.specs.Messages.{Ack, Kind}
use Rattle.group_model.specs.Packets.{Given}
use Rattle.group_model.specs.Pairing.{Draws, PairEvent, Part, draws, part_to}
use Rattle.group_model.specs.Primitives.{KeyPair, Primitives}
use Rattle.group_model.specs.Logs.{Log, hist}
use Rattle.group_model.specs.Parts.{part_sent, part_with, parts_of, payload_sent}
use Rattle.group_model.specs.Settings.{Owner}
use Rattle.group_keys.specs.Primitives.{primitives_of}
use Rattle.group_packets.specs.Packets.{addressed_of}
use Rattle.member_book.specs.Books.{BookState}
use Rattle.member_book.specs.BooksAfter.{part_by, payload_of}
use Rattle.member_book.specs.Standing.{MayStill, PartsSame, SendsSame}
use Rattle.causal_history.specs.Rows.{cards_of}
use Rattle.wire_codec.specs.Packets.{AddressedPart}
use Rattle.two_party.specs.Drawn.{Drawn}
use Rattle.secret_book.specs.HeldBooks.{HeldBook}
use Rattle.book_standing.specs.Standing.{HeldStands}
use Rattle.body_parts.specs.declared.addressing.Receiver.{Receiver}
use Rattle.body_parts.specs.Receivers.{ArePlaced, ids_to}
use Rattle.body_parts.specs.Sending.{AreDrawnFrom, AreMadeFor, given}
use Rattle.reference_member.specs.Members.{Member, own_id, own_pair, public_key_by}
use Rattle.reference_member.proofs.OwnerForms.{first-of}
use Rattle.next_messages.specs.Bodies.{IsBookOf}

-- parts that are the same
parts-same : (f g : Id → Option Part) (ids : List Id) → ((y : Id) → In y ids → f y ≡ g y) → parts_of f ids ≡ parts_of g ids
parts-same f g [] same = refl
parts-same f g (y ∷ ids) same = rw (same y here, parts-same f g ids (λ z i. same z (there i))) refl

-- the key of an id by the cards
key-by : (public_key : Id → Bytes) (cards : List Card) → ((card : Card) → In card cards → public_key (card_id card) ≡ card.kem_public)
    → (y : Id) → In y (map card_id cards) → public_key_by cards y ≡ public_key y
key-by public_key cards keys y i =
    let f = first-of cards y i in
    ap (λ (o : Option Card). option_map_or (λ (card : Card). card.kem_public) o []) f.first
    ∙ sym (keys f.card f.there_is) ∙ ap public_key f.own

-- the part with a key
abbrev sent_with : Log → Given → Kind → (y : Id) → Primitives → KeyPair → Id → Bytes → Option Part
sent_with l t k y K card self key = option_and_then (λ (v : Bytes). part_with K card self key l t y v) (payload_sent K card self l t k)

module _ {K P : Type 0} (kem : Ghosts K P) (sends : SendsSame) (same : PartsSame) (M : Member) (cards : List Card) (O : Owner)
    (state : BookState) (book : IsBookOf kem M (cards_of M.rows ++ cards) O state) (t : Given) (kind : Kind) (payload : Bytes)
    (carries : payload_of O t kind state ≡ Some payload) (sealing : BookState) (events : sealing.events ≡ state.events) (may : (i : Id) → kind ≡ Ack i true → MayStill O.rule (hist M.log) i O.id) where
  -- the part for an id that a card has
  part-is : (y : Id) → In y (map card_id (cards_of M.rows ++ cards))
      → part_sent (primitives_of kem) (own_pair kem M) (own_id kem M) (public_key_by (cards_of M.rows ++ cards)) M.log t kind y
      ≡ part_by O (given t.random) y payload sealing
  part-is y i =
      let l = M.log in
      let key = public_key_by (cards_of M.rows ++ cards) y in
      ap (λ z. sent_with l t kind y z (own_pair kem M) (own_id kem M) key) (sym book.primitives)
      ∙ ap (λ z. sent_with l t kind y O.primitives z (own_id kem M) key) (sym book.card)
      ∙ ap (λ z. sent_with l t kind y O.primitives O.card z key) (sym book.id)
      ∙ ap (λ z. sent_with l t kind y O.primitives O.card O.id z) (key-by O.public_key (cards_of M.rows ++ cards) book.keys y i)
      ∙ ap (λ (o : Option Bytes). option_and_then (λ (v : Bytes). part_with O.primitives O.card O.id (O.public_key y) l t y v) o)
      (sym (sends O l t kind state book.stands may) ∙ carries)
      ∙ sym (same O l t y payload state book.stands)
      ∙ ap (λ (e : Id → List PairEvent). option_and_then (λ (d : Draws). part_to O.primitives (O.public_key y) (e y) d payload)
      (draws O.primitives t.random y)) (sym events)

  pub parts-are : (to : List Receiver) (drawn : List Drawn) (ids : List Id) (before after : HeldBook) (parts : List AddressedPart)
      → AreMadeFor kem to payload drawn before after parts → HeldStands kem O ids before sealing → ArePlaced ids to
      → AreDrawnFrom (primitives_of kem) t.random drawn (ids_to to)
      → ((y : Id) → In y (ids_to to) → In y (map card_id (cards_of M.rows ++ cards)))
      → parts_of (part_sent (primitives_of kem) (own_pair kem M) (own_id kem M) (public_key_by (cards_of M.rows ++ cards)) M.log t kind)
      (ids_to to) ≡ Some (map (addressed_of kem) parts)
  parts-are to drawn ids before after parts made stands placed drawn_from have =
      parts-same (part_sent (primitives_of kem) (own_pair kem M) (own_id kem M) (public_key_by (cards_of M.rows ++ cards)) M.log t kind)
      (λ y. part_by O (given t.random) y payload sealing) (ids_to to) (λ y i. part-is y (have y i))
      ∙ (made.sends O ids sealing t.random stands placed drawn_from).sent
