-- In which order the items of a body stand, and what suits its kind.
use Rattle.std.proofs.Common.{◌≡◌, ℕ, zero, suc, ◌≤◌, true, nat_le, bytes_eq, List, [], ◌∷◌, length, refl, ap, sym, subst, ◌∙◌, arith}
use Rattle.std.specs.Prelude.{Option, Some, None}
use Rattle.std.specs.Int.{w8, w16, from_be_bytes, to_be_bytes, Width}
use Rattle.std.proofs.lemmas.Bool.{and_from, and_parts, eqb-true, leb-true}
use Rattle.group_fields.specs.Cards as cards
use Rattle.group_fields.specs.Cards.{card_of_sets}
use Rattle.group_fields.specs.Fields.{is_above, is_between, same_bytes}
use Rattle.group_fields.specs.Headers as headers
use Rattle.group_fields.specs.LayoutWrites.{ascends}
use Rattle.group_fields.specs.Layouts.{Layout, Spells, counted, next_id, number, sized}
use Rattle.group_fields.specs.declared.card.Card.{Card}
use Rattle.group_fields.specs.declared.header.Header.{Header}
use Rattle.group_fields.specs.declared.header.Kind.{Kind}
use Rattle.group_fields.specs.declared.header.Kind.TheVariants as kinds
use Rattle.group_fields.specs.declared.header.Target.{Target}
use Rattle.group_fields.specs.declared.ids.Digest.{Digest}
use Rattle.group_fields.specs.declared.ids.MemberId.{MemberId}
use Rattle.group_fields.proofs.CardBytes.{of_some_sets, spelled_has}
use Rattle.group_fields.proofs.HeaderBytes as header_bytes
use Rattle.wire_codec.specs.Order.{AreOfSet, CarriesWhatSuits, HaveSpellings, IsBodyInOrder, IsWelcome, card_ids, recipients}
use Rattle.wire_codec.specs.Packets.{AddressedPart, Body, WelcomeRows, add_body, addressed, body, card_above, card_named, cards_above, cards_named, create_body, history, id_of, member_named, members_named, part, parts_above, parts_body, row, text_body}
use Rattle.wire_codec.specs.Repeated.{repeated}
use Rattle.wire_codec.proofs.CardBytes.{cards_above_plain, cards_named_plain}
use Rattle.wire_codec.proofs.Sizes.{only_one}

-- ---- counts

pub few : {A : Type 0} (width : Width) (greatest : ℕ) (items : ℕ → Layout (List A)) (bytes : List ℕ) (v : List A)
    → Spells (counted (number width 0 greatest) items) bytes v → length v ≤ greatest
unfolding counted number
few width greatest items bytes v (pair, (front, back, e, (fills, n_is), rest), fits, is) =
    let between = (and_parts (is_between 0 greatest (from_be_bytes width front)) (bytes_eq (to_be_bytes width (from_be_bytes width front)) front) fills.allowed).0 in
    let top = leb-true (from_be_bytes width front) greatest (and_parts (nat_le 0 (from_be_bytes width front)) (nat_le (from_be_bytes width front) greatest) between).1 in
    omega (arith, top, n_is, eqb-true (length pair.1) pair.0 fits, ap length is)

-- the items behind a count
pub record AreCounted {A : Type 0} (items : ℕ → Layout (List A)) (v : List A) : Type 0 where
  pub count : ℕ
  pub bytes : List ℕ
  pub spelled : Spells (items count) bytes v

pub counted_items : {A : Type 0} (width : Width) (greatest : ℕ) (items : ℕ → Layout (List A)) (bytes : List ℕ) (v : List A)
    → Spells (counted (number width 0 greatest) items) bytes v → AreCounted items v
unfolding counted
counted_items width greatest items bytes v (pair, (front, back, e, one, rest), fits, is) =
    record { count = pair.0; bytes = back; spelled = subst (λ (l : List _). Spells (items pair.0) back l) (sym is) rest }

-- ---- parts

pub parts_ascend : (set count : ℕ) (last : Option Digest) (bytes : List ℕ) (v : List AddressedPart) → Spells (parts_above set count last) bytes v
    → ascends last (recipients v) ≡ true
unfolding parts_above addressed next_id
parts_ascend set zero last bytes v s = ap (λ (l : List AddressedPart). ascends last (recipients l)) s.1
parts_ascend set (suc count) last bytes v (pair, (front, back, e, (both, (f1, b1, e1, (fills, id_is), rest_of_part), fits_part, one_is), rest), fits, is) =
    let to : pair.0.to.0 ≡ both.0 = ap (λ (one : AddressedPart). one.to.0) one_is in
    let above : is_above last pair.0.to.0.0 ≡ true = ap (λ (d : Digest). is_above last d.0) (to ∙ id_is) ∙ fills.allowed in
    ap (λ (l : List AddressedPart). ascends last (recipients l)) is
    ∙ and_from (is_above last pair.0.to.0.0) (ascends (Some pair.0.to.0) (recipients pair.1)) above (parts_ascend set count (Some pair.0.to.0) back pair.1 rest)

-- ---- cards

named_id : (set : ℕ) (id : Digest) (bytes : List ℕ) (card : Card) → Spells (card_named set id) bytes card → id_of card ≡ id
unfolding card_named
named_id set id bytes card (inner, spelled, fits, is) =
    ap id_of is ∙ ap (λ (b : List ℕ). let d : Digest = record { 0 = b } in d) (same_bytes (id_of inner).0 id.0 fits)

pub named_ids : (set : ℕ) (ids : List Digest) (bytes : List ℕ) (v : List Card) → Spells (cards_named set ids) bytes v → card_ids v ≡ ids
unfolding cards_named
named_ids set [] bytes v s = ap card_ids s.1
named_ids set (id ∷ ids) bytes v (pair, (front, back, e, one, rest), fits, is) =
    ap card_ids is ∙ ap (λ (d : Digest). d ∷ card_ids pair.1) (named_id set id front pair.0 one)
    ∙ ap (λ (l : List Digest). id ∷ l) (named_ids set ids back pair.1 rest)

above_id : (set : ℕ) (last : Option Digest) (bytes : List ℕ) (card : Card) → Spells (card_above set last) bytes card → is_above last (id_of card).0 ≡ true
unfolding card_above
above_id set last bytes card (inner, spelled, fits, is) = ap (λ (c : Card). is_above last (id_of c).0) is ∙ fits

pub cards_ascend : (set count : ℕ) (last : Option Digest) (bytes : List ℕ) (v : List Card) → Spells (cards_above set count last) bytes v
    → ascends last (card_ids v) ≡ true
unfolding cards_above
cards_ascend set zero last bytes v s = ap (λ (l : List Card). ascends last (card_ids l)) s.1
cards_ascend set (suc count) last bytes v (pair, (front, back, e, one, rest), fits, is) =
    ap (λ (l : List Card). ascends last (card_ids l)) is
    ∙ and_from (is_above last (id_of pair.0).0) (ascends (Some (id_of pair.0)) (card_ids pair.1)) (above_id set last front pair.0 one)
    (cards_ascend set count (Some (id_of pair.0)) back pair.1 rest)

card_set : (set : ℕ) (bytes : List ℕ) (card : Card) → Spells (card_of_sets set set) bytes card → card.set ≡ set
unfolding card_of_sets number
card_set set bytes card (fields, (f1, b1, e1, tag, (f2, b2, e2, version, (f3, b3, e3, (fills, is), rest))), fits, renamed) =
    let between = (and_parts (is_between set set (from_be_bytes w8 f3)) (bytes_eq (to_be_bytes w8 (from_be_bytes w8 f3)) f3) fills.allowed).0 in
    ap (λ (c : Card). c.set) renamed ∙ is ∙ only_one set (from_be_bytes w8 f3) between

pub of_set : (set count : ℕ) (bytes : List ℕ) (v : List Card) → 1 ≤ set → set ≤ 2 → Spells (repeated count (card_of_sets set set)) bytes v → AreOfSet set v
unfolding repeated
of_set set zero bytes v low high s = subst (AreOfSet set) (sym s.1) tt
of_set set (suc count) bytes v low high (pair, (front, back, e, one, rest), fits, is) =
    subst (AreOfSet set) (sym is)
    (card_set set front pair.0 one, spelled_has pair.0 front (of_some_sets set set front pair.0 low high one), of_set set count back pair.1 low high rest)

-- ---- rows

row_has : (bytes : List ℕ) (header : Header) → Spells row bytes header → headers.HasSpelling header
unfolding row sized
row_has bytes header (pair, (front, back, e, size, (inside, spelled)), fits, is) =
    subst headers.HasSpelling (sym is) (header_bytes.spelled_has pair.1 back spelled)

pub have_spellings : (count : ℕ) (bytes : List ℕ) (v : List Header) → Spells (repeated count row) bytes v → HaveSpellings v
unfolding repeated
have_spellings zero bytes v s = subst HaveSpellings (sym s.1) tt
have_spellings (suc count) bytes v (pair, (front, back, e, one, rest), fits, is) =
    subst HaveSpellings (sym is) (row_has front pair.0 one, have_spellings count back pair.1 rest)

-- ---- histories

pub welcome_is : (set : ℕ) (bytes : List ℕ) (welcome : WelcomeRows) → 1 ≤ set → set ≤ 2 → Spells (history set) bytes welcome → IsWelcome set welcome
unfolding history
welcome_is set bytes welcome low high (pair, (front, back, e, one, rest), fits, is) =
    let cards = counted_items w8 32 (λ n. cards_above set n None) front pair.0 one in
    let rows = counted_items w16 4095 (λ n. repeated n row) back pair.1 rest in
    subst (IsWelcome set) (sym is) (record {
      ascend = cards_ascend set cards.count None cards.bytes pair.0 cards.spelled;
      few_cards = few w8 32 (λ n. cards_above set n None) front pair.0 one;
      of_set = of_set set cards.count cards.bytes pair.0 low high (cards_above_plain set cards.count None cards.bytes pair.0 cards.spelled);
      few_rows = few w16 4095 (λ n. repeated n row) back pair.1 rest;
      rows = have_spellings rows.count rows.bytes pair.1 rows.spelled;
    })

-- ---- bodies

no_history : (set : ℕ) (h : Option WelcomeRows) → h ≡ None → (welcome : WelcomeRows) → h ≡ Some welcome → IsWelcome set welcome
no_history set h none welcome some = absurd cc

parts_in_order : (set greatest : ℕ) (bytes : List ℕ) (b : Body) → greatest ≤ 31 → Spells (parts_body set greatest) bytes b → IsBodyInOrder set b
unfolding parts_body
parts_in_order set greatest bytes b le (v, spelled, fits, is) =
    let items = counted_items w8 greatest (λ n. parts_above set n None) bytes v spelled in
    let most = few w8 greatest (λ n. parts_above set n None) bytes v spelled in
    subst (IsBodyInOrder set) (sym is) (record {
      parts = parts_ascend set items.count None items.bytes v items.spelled;
      few_parts = omega arith;
      cards = tt;
      history = no_history set None refl;
    })

create_in_order : (set : ℕ) (ids : List Digest) (bytes : List ℕ) (b : Body) → 1 ≤ set → set ≤ 2 → Spells (create_body set ids) bytes b → IsBodyInOrder set b
unfolding create_body
create_in_order set ids bytes b low high (pair, (front, back, e, one, rest), fits, is) =
    let items = counted_items w8 31 (λ n. parts_above set n None) back pair.1 rest in
    subst (IsBodyInOrder set) (sym is) (record {
      parts = parts_ascend set items.count None items.bytes pair.1 items.spelled;
      few_parts = few w8 31 (λ n. parts_above set n None) back pair.1 rest;
      cards = of_set set (length ids) front pair.0 low high (cards_named_plain set ids front pair.0 one);
      history = no_history set None refl;
    })

one_card : (set : ℕ) (id : Digest) (bytes : List ℕ) (card : Card) → 1 ≤ set → set ≤ 2 → Spells (card_named set id) bytes card
    → (card.set ≡ set) × cards.HasSpelling card
unfolding card_named
one_card set id bytes card low high (inner, spelled, fits, is) =
    subst (λ (c : Card). (c.set ≡ set) × cards.HasSpelling c) (sym is)
    (card_set set bytes inner spelled, spelled_has inner bytes (of_some_sets set set bytes inner low high spelled))

some_welcome : (set : ℕ) (bytes : List ℕ) (rows : WelcomeRows) → 1 ≤ set → set ≤ 2 → Spells (history set) bytes rows
    → (welcome : WelcomeRows) → ◌≡◌ {A = Option WelcomeRows} (Some rows) (Some welcome) → IsWelcome set welcome
some_welcome set bytes rows low high spelled welcome some =
    let same : rows ≡ welcome = cc in
    subst (IsWelcome set) same (welcome_is set bytes rows low high spelled)

add_in_order : (set : ℕ) (id : MemberId) (bytes : List ℕ) (b : Body) → 1 ≤ set → set ≤ 2 → Spells (add_body set id) bytes b → IsBodyInOrder set b
unfolding add_body
add_in_order set id bytes b low high ((card, (part, rows)), (f1, b1, e1, one, (f2, b2, e2, two, three)), fits, is) =
    let of = one_card set id.0 f1 card low high one in
    subst (IsBodyInOrder set) (sym is) (record {
      parts = refl;
      few_parts = omega arith;
      cards = (of.0, of.1, tt);
      history = some_welcome set b2 rows low high three;
    })

text_in_order : (set : ℕ) (bytes : List ℕ) (b : Body) → Spells text_body bytes b → IsBodyInOrder set b
unfolding text_body
text_in_order set bytes b (sealed, spelled, fits, is) =
    subst (IsBodyInOrder set) (sym is) (record { parts = refl; few_parts = omega arith; cards = tt; history = no_history set None refl })

pub body_in_order : (set : ℕ) (kind : Kind) (target : Target) (bytes : List ℕ) (b : Body) → 1 ≤ set → set ≤ 2 → Spells (body set kind target) bytes b
    → IsBodyInOrder set b
unfolding body
body_in_order set kinds.Create target bytes b low high s = create_in_order set (members_named target) bytes b low high s
body_in_order set kinds.Update target bytes b low high s = parts_in_order set 31 bytes b (omega arith) s
body_in_order set kinds.Remove target bytes b low high s = parts_in_order set 31 bytes b (omega arith) s
body_in_order set kinds.Add target bytes b low high s = add_in_order set (member_named target) bytes b low high s
body_in_order set kinds.Ack target bytes b low high s = parts_in_order set 31 bytes b (omega arith) s
body_in_order set kinds.AddAck target bytes b low high s = parts_in_order set 1 bytes b (omega arith) s
body_in_order set kinds.Text target bytes b low high s = text_in_order set bytes b s

-- ---- what suits a kind

parts_suit : (set greatest : ℕ) (bytes : List ℕ) (b : Body) → Spells (parts_body set greatest) bytes b
    → (b.cards ≡ []) × (length b.parts ≤ greatest) × (b.history ≡ None) × (b.text ≡ None)
unfolding parts_body
parts_suit set greatest bytes b (v, spelled, fits, is) =
    subst (λ (x : Body). (x.cards ≡ []) × (length x.parts ≤ greatest) × (x.history ≡ None) × (x.text ≡ None)) (sym is)
    (refl, few w8 greatest (λ n. parts_above set n None) bytes v spelled, refl, refl)

pub suits : (set : ℕ) (kind : Kind) (target : Target) (bytes : List ℕ) (b : Body) → Spells (body set kind target) bytes b → CarriesWhatSuits kind target b
unfolding body create_body add_body text_body
suits set kinds.Create target bytes b (pair, (front, back, e, one, rest), fits, is) =
    subst (CarriesWhatSuits kinds.Create target) (sym is) (named_ids set (members_named target) front pair.0 one, refl, refl)
suits set kinds.Update target bytes b s = let x = parts_suit set 31 bytes b s in (x.0, x.2, x.3)
suits set kinds.Remove target bytes b s = let x = parts_suit set 31 bytes b s in (x.0, x.2, x.3)
suits set kinds.Add target bytes b ((card, (part, rows)), (f1, b1, e1, one, rest), fits, is) =
    subst (CarriesWhatSuits kinds.Add target) (sym is)
    (ap (λ (d : Digest). d ∷ []) (named_id set (member_named target).0 f1 card one), refl, (rows, refl), refl)
suits set kinds.Ack target bytes b s = let x = parts_suit set 31 bytes b s in (x.0, x.2, x.3)
suits set kinds.AddAck target bytes b s = parts_suit set 1 bytes b s
suits set kinds.Text target bytes b (sealed, spelled, fits, is) =
    subst (CarriesWhatSuits kinds.Text target) (sym is) (refl, refl, refl, (sealed, refl))
