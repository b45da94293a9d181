-- Cards of a set, and lists of them.
use Rattle.std.proofs.Common.{◌≡◌, ℕ, zero, suc, ◌+◌, ◌-◌, ◌*◌, ◌<◌, ◌≤◌, List, [], ◌∷◌, length, take, drop, refl, ap, sym, subst, ◌∙◌, arith, slice_get}
use Rattle.std.specs.Prelude.{Result, Ok, Err, Option, Some}
use Rattle.group_fields.specs.Cards as cards
use Rattle.group_fields.specs.Cards.{card_of_sets}
use Rattle.group_fields.specs.LayoutReads.{Takes}
use Rattle.group_fields.specs.Layouts.{Spells}
use Rattle.group_fields.specs.Reading.{Reading}
use Rattle.group_fields.specs.declared.card.Card.{Card}
use Rattle.group_fields.specs.declared.fault.FieldFault.{FieldFault}
use Rattle.group_fields.specs.declared.ids.Digest.{Digest}
use Rattle.group_fields.proofs.CardBytes.{of_some_sets}
use Rattle.wire_codec.specs.Packets.{card_above, card_named, card_size, cards_above, cards_named, id_of}
use Rattle.wire_codec.specs.Readings.{AreCards, Passes}
use Rattle.wire_codec.specs.Repeated.{items_in, repeated}
use Rattle.wire_codec.proofs.ListReads.{count_is, item_at, pass_more, pass_none, pass_stops}
use Rattle.wire_codec.proofs.Sizes.{card_long}

-- ---- lists of cards, whatever is asked of their ids

named_plain : (set : ℕ) (id : Digest) (bytes : List ℕ) (one : Card) → Spells (card_named set id) bytes one → Spells (card_of_sets set set) bytes one
unfolding card_named
named_plain set id bytes one (card, spelled, fits, is) = subst (λ (c : Card). Spells (card_of_sets set set) bytes c) (sym is) spelled

above_plain : (set : ℕ) (last : Option Digest) (bytes : List ℕ) (one : Card) → Spells (card_above set last) bytes one → Spells (card_of_sets set set) bytes one
unfolding card_above
above_plain set last bytes one (card, spelled, fits, is) = subst (λ (c : Card). Spells (card_of_sets set set) bytes c) (sym is) spelled

pub cards_named_plain : (set : ℕ) (ids : List Digest) (bytes : List ℕ) (v : List Card) → Spells (cards_named set ids) bytes v
    → Spells (repeated (length ids) (card_of_sets set set)) bytes v
unfolding cards_named repeated
cards_named_plain set [] bytes v s = s
cards_named_plain set (id ∷ ids) bytes v (pair, (front, back, e, one, rest), fits, is) =
    (pair, (front, back, e, named_plain set id front pair.0 one, cards_named_plain set ids back pair.1 rest), fits, is)

pub cards_above_plain : (set count : ℕ) (last : Option Digest) (bytes : List ℕ) (v : List Card) → Spells (cards_above set count last) bytes v
    → Spells (repeated count (card_of_sets set set)) bytes v
unfolding cards_above repeated
cards_above_plain set zero last bytes v s = s
cards_above_plain set (suc count) last bytes v (pair, (front, back, e, one, rest), fits, is) =
    (pair, (front, back, e, above_plain set last front pair.0 one, cards_above_plain set count (Some (id_of pair.0)) back pair.1 rest), fits, is)

-- ---- the card at an index

pub record IsCardAt (size index : ℕ) (bytes : List ℕ) (v : List Card) : Type 0 where
  pub one : Card
  pub within : index * size + size ≤ length bytes
  pub is : slice_get v index ≡ Some one
  pub spelled : cards.Spells one (take size (drop (index * size) bytes))

pub card_at : (set count index size : ℕ) (bytes : List ℕ) (v : List Card) → items_in (card_of_sets set set) count bytes ≡ v
    → AreCards set count bytes → index < length v → size ≡ card_size set → IsCardAt size index bytes v
card_at set count index size bytes v are of lt sized =
    let item = card_of_sets set set in
    let all = subst (λ (l : List Card). Spells (repeated count item) bytes l) are of.spelled in
    let one = item_at item size (λ b a s. card_long set b a s ∙ sym sized) count index bytes v all (omega (arith, count_is item count bytes v all)) in
    let at : size * index ≡ index * size = swap size index in
    record {
      one = one.one;
      within = omega (arith, at, one.within);
      is = one.is;
      spelled = subst (λ (k : ℕ). cards.Spells one.one (take size (drop k bytes))) at
          (of_some_sets set set (take size (drop (size * index) bytes)) one.one of.least of.greatest one.spelled);
    }
  where
    swap : (n m : ℕ) → n * m ≡ m * n
    swap n m = omega arith

-- ---- readers that pass cards

pub above_none : (set count : ℕ) (last : Option Digest) (reader : Reading) → count ≡ 0 → reader.place ≤ length reader.whole
    → Passes (cards_above set count last) reader reader (Ok tt)
unfolding cards_above
above_none set count last reader none within =
    subst (λ (n : ℕ). Passes (cards_above set n last) reader reader (Ok tt)) (sym none) (pass_none reader within)

module _ {T : Type 0} (view : T → Card) (set count : ℕ) (last : Option Digest) (some : 0 < count) where
  more : suc (count - 1) ≡ count
  more = omega arith

  pub above_stop : {old new : Reading} {fault : FieldFault} → Takes view (card_above set last) old new (Err fault)
      → Passes (cards_above set count last) old new (Err fault)
  unfolding cards_above
  above_stop {old} {new} {fault} one =
      subst (λ (n : ℕ). Passes (cards_above set n last) old new (Err fault)) more
      (pass_stops view (card_above set last) (λ card. cards_above set (count - 1) (Some (id_of card))) one)

  pub above_more : {old mid new : Reading} (v : T) (id : Digest) (result : Result (Unit {0}) FieldFault) → Takes view (card_above set last) old mid (Ok v)
      → id ≡ id_of (view v) → Passes (cards_above set (count - 1) (Some id)) mid new result → Passes (cards_above set count last) old new result
  unfolding cards_above
  above_more {old} {mid} {new} v id result one same rest =
      subst (λ (n : ℕ). Passes (cards_above set n last) old new result) more
      (pass_more view (card_above set last) (λ card. cards_above set (count - 1) (Some (id_of card))) v result one
      (subst (λ (d : Digest). Passes (cards_above set (count - 1) (Some d)) mid new result) same rest))

pub named_none : (set index : ℕ) (ids : List Digest) (reader : Reading) → index ≡ length ids → reader.place ≤ length reader.whole
    → Passes (cards_named set (drop index ids)) reader reader (Ok tt)
unfolding cards_named
named_none set index ids reader at within =
    subst (λ (l : List Digest). Passes (cards_named set l) reader reader (Ok tt)) (sym (ap (λ (n : ℕ). drop n ids) at ∙ none_left ids)) (pass_none reader within)
  where
    none_left : (l : List Digest) → drop (length l) l ≡ []
    none_left [] = refl
    none_left (x ∷ l) = none_left l

-- the id at an index, and those behind it
split_at : (ids : List Digest) (index : ℕ) (id : Digest) → slice_get ids index ≡ Some id → drop index ids ≡ id ∷ drop (index + 1) ids
split_at [] zero id is = absurd cc
split_at [] (suc index) id is = absurd cc
split_at (x ∷ ids) zero id is = let same : x ≡ id = cc in ap (λ (y : Digest). y ∷ ids) same
split_at (x ∷ ids) (suc index) id is =
    let n : suc index + 1 ≡ suc (index + 1) = omega arith in
    split_at ids index id is ∙ ap (λ (k : ℕ). id ∷ drop k (x ∷ ids)) (sym n)

module _ {T : Type 0} (view : T → Card) (set index : ℕ) (ids : List Digest) (id : Digest) (is : slice_get ids index ≡ Some id) where
  pub named_stop : {old new : Reading} {fault : FieldFault} → Takes view (card_named set id) old new (Err fault)
      → Passes (cards_named set (drop index ids)) old new (Err fault)
  unfolding cards_named
  named_stop {old} {new} {fault} one =
      subst (λ (l : List Digest). Passes (cards_named set l) old new (Err fault)) (sym (split_at ids index id is))
      (pass_stops view (card_named set id) (λ card. cards_named set (drop (index + 1) ids)) one)

  pub named_more : {old mid new : Reading} (v : T) (result : Result (Unit {0}) FieldFault) → Takes view (card_named set id) old mid (Ok v)
      → Passes (cards_named set (drop (index + 1) ids)) mid new result → Passes (cards_named set (drop index ids)) old new result
  unfolding cards_named
  named_more {old} {mid} {new} v result one rest =
      subst (λ (l : List Digest). Passes (cards_named set l) old new result) (sym (split_at ids index id is))
      (pass_more view (card_named set id) (λ card. cards_named set (drop (index + 1) ids)) v result one rest)
