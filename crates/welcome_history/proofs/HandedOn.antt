-- What is written of a history that is handed on: items one behind the other, and the first cards of ids.
use Rattle.std.proofs.Common.{◌≡◌, ℕ, zero, suc, ◌+◌, ◌≤◌, nat_le, ◌↔◌, Bool, true, inl, inr, List, [], ◌∷◌, ◌++◌, length, map, take, slice_get, option_map, bytes_eq, Option, Some, None, refl, sym, ◌∙◌, ap, subst, arith, append_assoc}
use Rattle.std.specs.Prelude.{find}
use Rattle.std.specs.Int.{w8, w16, from_be_bytes, to_be_bytes}
use Rattle.std.proofs.lemmas.Bool.{and_from, and_parts, le-leb}
use Rattle.std.proofs.lemmas.List.{append-nil, length-map}
use Rattle.std.proofs.lemmas.Slice.Eq.{bytes_eq-Decides}
use Rattle.group_fields.specs.Cards.{card, card_id, card_of_sets}
use Rattle.group_fields.specs.Fields.{is_above, is_between}
use Rattle.group_fields.specs.LayoutWrites.{Appends, ascends}
use Rattle.group_fields.specs.Headers as headers
use Rattle.group_fields.specs.Layouts.{Layout, Spells, behind, bytes_of, number}
use Rattle.group_fields.specs.declared.card.Card.{Card}
use Rattle.group_fields.specs.declared.header.Header.{Header}
use Rattle.group_fields.specs.declared.ids.Digest.{Digest}
use Rattle.group_fields.proofs.WriteSteps.{behind_appended, counted_appended, sized_appended}
use Rattle.group_model.specs.Sets.{Id, In, here, there, IsAscending}
use Rattle.group_model.specs.Membership.{ids_named}
use Rattle.group_model.proofs.ListFacts.{test, yes_is, no_is, equal_id, In-cases, In-either, In-nothing}
use Rattle.group_model.proofs.Verdicts.{says-below}
use Rattle.causal_history.specs.Rows.{Row, card_among, card_in, cards_of, history_of}
use Rattle.wire_codec.specs.Order.{card_ids}
use Rattle.wire_codec.specs.Packets as packets
use Rattle.wire_codec.specs.Packets.{WelcomeRows, card_above, cards_above, counted_cards, counted_rows, id_of, row}
use Rattle.wire_codec.specs.Repeated.{repeated}
use Rattle.welcome_history.specs.Welcomes.{AreCardsHandedOn, AreFirstCards, AreInOrder, IsWelcomeOf, headers_of}
use Rattle.welcome_history.proofs.CardsFor.{map-append, taken}

-- ---- items one behind the other

pub none_yet : {A : Type 0} (item : Layout A) (bytes : List ℕ) → Appends (repeated 0 item) [] bytes bytes
unfolding repeated
none_yet item bytes = record { back = []; whole = sym (append-nil bytes); spelled = (refl, refl) }

-- one more behind so many
more : {A : Type 0} (item : Layout A) (n : ℕ) (xs : List A) (x : A) (front back : List ℕ) → Spells (repeated n item) front xs
    → Spells item back x → Spells (repeated (suc n) item) (front ++ back) (xs ++ x ∷ [])
unfolding repeated
more {A} item zero xs x front back (none, empty) one = (
  (x, []),
  (
    back,
    [],
    ap (λ (l : List ℕ). l ++ back) none ∙ sym (append-nil back),
    one,
    (refl, refl),
  ),
  refl,
  ap (λ (l : List A). l ++ x ∷ []) empty,
)
more {A} item (suc n) xs x front back (pair, (first, others, e, head, rest), fits, is) one = (
  (pair.0, pair.1 ++ x ∷ []),
  (
    first,
    others ++ back,
    ap (λ (l : List ℕ). l ++ back) e ∙ append_assoc first others back,
    head,
    more item n pair.1 x others back rest one,
  ),
  refl,
  ap (λ (l : List A). l ++ x ∷ []) is,
)

pub one_more : {A : Type 0} (item : Layout A) (n : ℕ) (xs : List A) (x : A) (old mid new : List ℕ) → Appends (repeated n item) xs old mid
    → Appends item x mid new → Appends (repeated (n + 1) item) (xs ++ x ∷ []) old new
one_more item n xs x old mid new so_far one =
    let next : suc n ≡ n + 1 = omega arith in
    record {
      back = so_far.back ++ one.back;
      whole = one.whole ∙ ap (λ (l : List ℕ). l ++ one.back) so_far.whole ∙ append_assoc old so_far.back one.back;
      spelled = subst (λ (m : ℕ). Spells (repeated m item) (so_far.back ++ one.back) (xs ++ x ∷ [])) next
          (more item n xs x so_far.back one.back so_far.spelled one.spelled);
    }

pub at_most : (n greatest : ℕ) → n ≤ greatest → is_between 0 greatest n ≡ true
at_most n greatest few = and_from (nat_le 0 n) (nat_le n greatest) (le-leb 0 n (omega arith)) (le-leb n greatest few)

-- ---- cards of a set, ascending by their ids

-- a card of either set is one of its own
pub of_set : (set : ℕ) (bytes : List ℕ) (value : Card) → Spells card bytes value → value.set ≡ set → Spells (card_of_sets set set) bytes value
unfolding card_of_sets number
of_set set bytes value (
  (tag, (version, (of, (key, (inviter, kem))))),
  (f1, b1, e1, is_tag, (f2, b2, e2, is_version, (f3, b3, e3, (fills, is), rest))),
  fits,
  renamed,
) own =
    let n = from_be_bytes w8 f3 in
    let again = bytes_eq (to_be_bytes w8 n) f3 in
    let both = and_parts (is_between 1 2 n) again fills.allowed in
    let same : n ≡ set = sym is ∙ sym (ap (λ (c : Card). c.set) renamed) ∙ own in
    let allowed = and_from (is_between set set n) again
    (and_from (nat_le set n) (nat_le n set) (le-leb set n (omega (arith, same))) (le-leb n set (omega (arith, same)))) both.1 in (
      (tag, (version, (of, (key, (inviter, kem))))),
      (f1, b1, e1, is_tag, (f2, b2, e2, is_version, (f3, b3, e3, (record { size = fills.size; allowed = allowed }, is), rest))),
      fits,
      renamed,
    )

above_one : (set : ℕ) (last : Option Digest) (bytes : List ℕ) (one : Card) → Spells (card_of_sets set set) bytes one → is_above last (card_id one) ≡ true
    → Spells (card_above set last) bytes one
unfolding card_above
above_one set last bytes one spelled above = (one, spelled, above, refl)

all_above : (set n : ℕ) (last : Option Digest) (bytes : List ℕ) (v : List Card) → Spells (repeated n card) bytes v
    → ((c : Card) → In c v → c.set ≡ set) → ascends last (card_ids v) ≡ true → Spells (cards_above set n last) bytes v
unfolding repeated cards_above
all_above set zero last bytes v s of up = s
all_above set (suc n) last bytes v (pair, (front, back, e, one, rest), fits, is) of up =
    let own : (c : Card) → In c (pair.0 ∷ pair.1) → c.set ≡ set = subst (λ (z : List Card). (c : Card) → In c z → c.set ≡ set) is of in
    let rises : ascends last (card_ids (pair.0 ∷ pair.1)) ≡ true = subst (λ (z : List Card). ascends last (card_ids z) ≡ true) is up in
    let both = and_parts (is_above last (card_id pair.0)) (ascends (Some (id_of pair.0)) (card_ids pair.1)) rises in (
      pair,
      (
        front,
        back,
        e,
        above_one set last front pair.0 (of_set set front pair.0 one (own pair.0 here)) both.0,
        all_above set n (Some (id_of pair.0)) back pair.1 rest (λ c i. own c (there i)) both.1,
      ),
      fits,
      is,
    )

-- the order of ids as the format asks for it
rising : (cards : List Card) → IsAscending (map card_id cards) → ascends None (card_ids cards) ≡ true
rising [] up = refl
rising (c ∷ cards) up = behind c cards up
  where
    behind : (c : Card) (others : List Card) → IsAscending (map card_id (c ∷ others)) → ascends (Some (id_of c)) (card_ids others) ≡ true
    behind c [] up = refl
    behind c (d ∷ others) up = and_from (is_above (Some (id_of c)) (card_id d)) (ascends (Some (id_of d)) (card_ids others))
        ((says-below (card_id c) (card_id d)).told up.0) (behind d others up.1)

pub cards_above_appended : (set n : ℕ) (cards : List Card) (old new : List ℕ) → Appends (repeated n card) cards old new
    → ((c : Card) → In c cards → c.set ≡ set) → IsAscending (map card_id cards) → Appends (cards_above set n None) cards old new
cards_above_appended set n cards old new a of up =
    record { back = a.back; whole = a.whole; spelled = all_above set n None a.back cards a.spelled of (rising cards up) }

-- ---- the first cards of ids

pub no_first : (rows : List Row) → AreFirstCards rows [] []
no_first rows = record { ids = refl; first = λ c i. elim i [ ] }

pub more_first : (rows : List Row) (ids : List Id) (cards : List Card) (x : Id) (c : Card) → AreFirstCards rows ids cards → card_in rows x ≡ Some c
    → card_id c ≡ x → AreFirstCards rows (ids ++ x ∷ []) (cards ++ c ∷ [])
more_first rows ids cards x c f there_is own = record {
  ids = map-append card_id cards (c ∷ []) ∙ ap (λ (z : List Id). z ++ card_id c ∷ []) f.ids ∙ ap (λ (y : Id). ids ++ y ∷ []) own;
  first = λ d i. elim (In-either cards i) [
    | inl k ↦ f.first d k
    | inr k ↦ elim (In-cases k) [
      | inl e ↦ subst (λ (z : Card). card_in rows (card_id z) ≡ Some z) (sym e) (subst (λ (z : Id). card_in rows z ≡ Some c) (sym own) there_is)
      | inr q ↦ absurd (In-nothing q)
    ]
  ];
}

-- the first among these cards is the first of the rows
among : (rows : List Row) (cards : List Card) (x : Id) → ((c : Card) → In c cards → card_in rows (card_id c) ≡ Some c)
    → In x (map card_id cards) → card_among cards x ≡ card_in rows x
among rows [] x f i = elim i [ ]
among rows (c ∷ cards) x f i = elim (test (bytes_eq (card_id c) x)) [
  | yes_is t ↦
      (let own : card_id c ≡ x = (bytes_eq-Decides (card_id c) x).0 t in
      let here_is : card_among (c ∷ cards) x ≡ Some c = rw t refl in
      here_is ∙ sym (subst (λ (z : Id). card_in rows z ≡ Some c) own (f c here)))
  | no_is n ↦
      (let passed : card_among (c ∷ cards) x ≡ card_among cards x = rw n refl in
      passed ∙ among rows cards x (λ d k. f d (there k)) (elim (In-cases i) [
        | inl e ↦ absurd (let t : bytes_eq (card_id c) x ≡ true = equal_id (card_id c) x (sym e) in cc)
        | inr k ↦ k
      ]))
]

pub handed_on : (rows : List Row) (ids : List Id) (cards : List Card) → AreInOrder (ids_named (history_of rows)) ids → AreFirstCards rows ids cards
    → AreCardsHandedOn rows cards
handed_on rows ids cards order f = record {
  ascending = subst IsAscending (sym f.ids) order.ascending;
  named = λ x. subst (λ (z : List Id). In x z ↔ In x (ids_named (history_of rows))) (sym f.ids) (order.same x);
  first = λ x i. among rows cards x f.first (subst (λ (z : List Id). In x z) (sym f.ids) ((order.same x).1 i));
}

-- a card that is found is one of the rows'
found-in : (p : Card → Bool) (xs : List Card) (c : Card) → find p xs ≡ Some c → In c xs
found-in p [] c e = absurd cc
found-in p (x ∷ xs) c e = elim (test (p x)) [
  | yes_is t ↦ (let f : Some x ≡ Some c = rw t at e in let d : x ≡ c = cc in subst (λ (z : Card). In z (x ∷ xs)) d here)
  | no_is f ↦ there (found-in p xs c (rw f at e))
]

pub first-in : (rows : List Row) (x : Id) (c : Card) → card_in rows x ≡ Some c → In c (cards_of rows)
unfolding card_in
first-in rows x c e = found-in (λ (d : Card). bytes_eq (card_id d) x) (cards_of rows) c e

-- a count, and the first cards of so many ids
pub cards_counted : (set : ℕ) (rows : List Row) (ids : List Id) (cards : List Card) (count : ℕ) (old mid new : List ℕ)
    → ((c : Card) → In c (cards_of rows) → c.set ≡ set) → AreInOrder (ids_named (history_of rows)) ids
    → count ≡ length (ids_named (history_of rows)) → count ≤ 32
    → ((least greatest : ℕ) → is_between least greatest count ≡ true → Appends (number w8 least greatest) count old mid)
    → AreFirstCards rows ids cards → Appends (repeated (length ids) card) cards mid new
    → (out : List Card) × AreCardsHandedOn rows out × Appends (counted_cards set) out old new
cards_counted set rows ids cards count old mid new of order are few number_is f all =
    let handed = handed_on rows ids cards order f in
    let long : length cards ≡ length ids = sym (length-map cards card_id) ∙ ap length f.ids in
    let so_many : count ≡ length cards = are ∙ sym order.count ∙ sym long in
    let plain : Appends (repeated (length cards) card) cards mid new =
    subst (λ (n : ℕ). Appends (repeated n card) cards mid new) (sym long) all in (
      cards,
      handed,
      counted_appended (number w8 0 32) (λ n. cards_above set n None) cards old mid new
          (subst (λ (n : ℕ). Appends (number w8 0 32) n old mid) so_many (number_is 0 32 (at_most count 32 few)))
          (cards_above_appended set (length cards) cards mid new plain (λ c i. of c (first-in rows (card_id c) c (f.first c i))) handed.ascending),
    )

-- ---- headers behind their lengths

pub row_appended : (header : Header) (part old mid new : List ℕ) → headers.Spells header part → length part ≤ 2154
    → ((least greatest : ℕ) → is_between least greatest (length part) ≡ true → Appends (number w16 least greatest) (length part) old mid)
    → Appends (bytes_of (length part)) part mid new → Appends row header old new
unfolding row
row_appended header part old mid new spelled short size all =
    sized_appended (number w16 0 0xffff) (λ bytes. true) headers.header header part old mid new spelled refl
    (size 0 0xffff (at_most (length part) 0xffff (omega (arith, short)))) all

header-of : (o : Option Row) (header : Header) → option_map (λ (r : Row). r.header) o ≡ Some header → (r : Row) × (o ≡ Some r) × (r.header ≡ header)
header-of None header e = absurd cc
header-of (Some r) header e = (r, refl, let d : r.header ≡ header = cc in d)

pub rows_more : (rows : List Row) (at : ℕ) (header : Header) (old mid new : List ℕ)
    → option_map (λ (r : Row). r.header) (slice_get rows at) ≡ Some header → Appends (repeated at row) (headers_of (take at rows)) old mid
    → Appends row header mid new → Appends (repeated (at + 1) row) (headers_of (take (at + 1) rows)) old new
rows_more rows at header old mid new there_is so_far one =
    let r = header-of (slice_get rows at) header there_is in
    let next : headers_of (take (at + 1) rows) ≡ headers_of (take at rows) ++ header ∷ [] =
    ap headers_of (taken rows at r.0 r.1) ∙ map-append (λ (q : Row). q.header) (take at rows) (r.0 ∷ [])
    ∙ ap (λ (h : Header). headers_of (take at rows) ++ h ∷ []) r.2 in
    subst (λ (l : List Header). Appends (repeated (at + 1) row) l old new) (sym next)
    (one_more row at (headers_of (take at rows)) header old mid new so_far one)

-- a count, and the headers of so many rows
pub rows_counted : (rows : List Row) (count : ℕ) (old mid new : List ℕ) → count ≡ length rows → count ≤ 4095
    → ((least greatest : ℕ) → is_between least greatest count ≡ true → Appends (number w16 least greatest) count old mid)
    → Appends (repeated (length rows) row) (headers_of rows) mid new → Appends counted_rows (headers_of rows) old new
rows_counted rows count old mid new are few number_is all =
    let long : length (headers_of rows) ≡ length rows = length-map rows (λ (r : Row). r.header) in
    counted_appended (number w16 0 4095) (λ n. repeated n row) (headers_of rows) old mid new
    (subst (λ (n : ℕ). Appends (number w16 0 4095) n old mid) (are ∙ sym long) (number_is 0 4095 (at_most count 4095 few)))
    (subst (λ (n : ℕ). Appends (repeated n row) (headers_of rows) mid new) (sym long) all)

-- ---- cards and headers

pub welcome_appended : (set : ℕ) (rows : List Row) (old mid new : List ℕ)
    → ((cards : List Card) × AreCardsHandedOn rows cards × Appends (counted_cards set) cards old mid)
    → Appends counted_rows (headers_of rows) mid new
    → (welcome : WelcomeRows) × IsWelcomeOf rows welcome × Appends (packets.history set) welcome old new
unfolding packets.history
welcome_appended set rows old mid new (cards, handed, first) second =
    let welcome : WelcomeRows = record { cards = cards; rows = headers_of rows } in
    let both : Appends (behind (counted_cards set) (λ (l : List Card). counted_rows)) (cards, headers_of rows) old new =
    behind_appended (counted_cards set) (λ (l : List Card). counted_rows) cards (headers_of rows) old mid new first second in (
      welcome,
      record { headers = refl; ascending = handed.ascending; named = handed.named; first = handed.first },
      record { back = both.back; whole = both.whole; spelled = ((cards, headers_of rows), both.spelled, refl, refl) },
    )

-- ---- one card more

pub cards_more : (rows : List Row) (ids : List Id) (at : ℕ) (x : Id) (c : Card) (part old mid new : List ℕ) → slice_get ids at ≡ Some x
    → card_in rows x ≡ Some c → card_id c ≡ x → Spells card part c → new ≡ mid ++ part
    → ((l : List Card) × AreFirstCards rows (take at ids) l × Appends (repeated at card) l old mid)
    → (l : List Card) × AreFirstCards rows (take (at + 1) ids) l × Appends (repeated (at + 1) card) l old new
cards_more rows ids at x c part old mid new there_is first own spelled whole (l, f, a) =
    let one : Appends card c mid new = record { back = part; whole = whole; spelled = spelled } in (
      l ++ c ∷ [],
      subst (λ (z : List Id). AreFirstCards rows z (l ++ c ∷ [])) (sym (taken ids at x there_is)) (more_first rows (take at ids) l x c f first own),
      one_more card at l c old mid new a one,
    )
