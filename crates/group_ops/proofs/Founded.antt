-- The body of a create: cards one behind the other, and parts behind them.
use Rattle.std.proofs.Common.{◌≡◌, ℕ, ◌-◌, ◌<◌, ◌≤◌, Bool, true, false, nat_le, IsTrue, List, [], ◌∷◌, ◌++◌, length, map, get_or, take, drop, None, refl, sym, ◌∙◌, ap, subst, arith, append_assoc}
use Rattle.std.specs.Prelude.{Result, OnOk, ◌↔◌}
use Rattle.std.specs.Int.{w8, from_be_bytes, to_be_bytes}
use Rattle.std.proofs.Common.{bytes_eq}
use Rattle.std.proofs.lemmas.Bool.{and_from, and_parts, le-leb}
use Rattle.std.proofs.lemmas.List.{append-nil, length-map, take_all}
use Rattle.std.proofs.lemmas.Result.{on_ok_weaker}
use Rattle.std.proofs.lemmas.Slice.Eq.{bytes_eq-Decides}
use Rattle.kem_trait.specs.declared.kem.Kem.{Ghosts}
use Rattle.group_fields.specs.Cards.{Spells, card_id, card_of_sets}
use Rattle.group_fields.specs.Fields.{is_between}
use Rattle.group_fields.specs.LayoutWrites.{Appends}
use Rattle.group_fields.specs.Layouts as layouts
use Rattle.group_fields.specs.Layouts.{behind, first_and_others, number}
use Rattle.group_fields.specs.declared.card.Card.{Card}
use Rattle.group_fields.specs.declared.ids.MemberId.{MemberId}
use Rattle.group_fields.proofs.WriteSteps.{behind_appended, shaped_appended}
use Rattle.wire_codec.specs.Packets.{AddressedPart, card_named, cards_named, create_body, id_of, parts}
use Rattle.group_model.specs.Sets.{Bytes, Id, In, here, there}
use Rattle.causal_history.proofs.ListMore.{map-append}
use Rattle.two_party.specs.Drawn.{Drawn}
use Rattle.secret_book.specs.HeldBooks.{HeldBook}
use Rattle.body_parts.specs.declared.addressing.Receiver.{Receiver}
use Rattle.body_parts.specs.Receivers.{AreReceivers}
use Rattle.body_parts.specs.Sending.{AreMadeFor, IsPartsBody}
use Rattle.group_ops.specs.Making.{IsSeededBody, placed_by}

-- ---- one card

-- a card of either set is one of its own set
own_set : (set : ℕ) (bytes : List ℕ) (value : Card) → value.set ≡ set → Spells value bytes → layouts.Spells (card_of_sets set set) bytes value
unfolding card_of_sets number
own_set set bytes value own (fields, (f1, b1, e1, tag, (f2, b2, e2, version, (f3, b3, e3, (fills, is), rest))), fits, renamed) =
    let both = and_parts (is_between 1 2 (from_be_bytes w8 f3)) (bytes_eq (to_be_bytes w8 (from_be_bytes w8 f3)) f3) fills.allowed in
    let same : set ≡ from_be_bytes w8 f3 = sym own ∙ ap (λ (c : Card). c.set) renamed ∙ is in
    let itself : is_between set set set ≡ true = and_from (nat_le set set) (nat_le set set) (le-leb set set (omega arith)) (le-leb set set (omega arith)) in
    let allowed = and_from (is_between set set (from_be_bytes w8 f3)) (bytes_eq (to_be_bytes w8 (from_be_bytes w8 f3)) f3)
    (subst (λ (n : ℕ). is_between set set n ≡ true) same itself) both.1 in
    (fields, (f1, b1, e1, tag, (f2, b2, e2, version, (f3, b3, e3, (record { size = fills.size; allowed = allowed }, is), rest))), fits, renamed)

pub card_appended : (set : ℕ) (card : Card) (bytes old new : List ℕ) → card.set ≡ set → Spells card bytes → new ≡ old ++ bytes
    → Appends (card_named set (id_of card)) card old new
unfolding card_named
card_appended set card bytes old new own spelled whole = record {
  back = bytes;
  whole = whole;
  spelled = (card, own_set set bytes card own spelled, (bytes_eq-Decides (card_id card) (card_id card)).1 refl, refl);
}

-- ---- cards one behind the other

-- all cards of a slice but the first
abbrev pub rest_of : List Card → List Card
rest_of cards = take (length cards - 1) (drop 1 cards)

pub rest_is : (card : Card) (others : List Card) → others ≡ rest_of (card ∷ others)
rest_is card others = sym (take_all (length (card ∷ others) - 1) others (omega arith))

pub first_in : (cards : List Card) (first : Card) → 0 < length cards → first ≡ get_or cards 0 first → In first cards
first_in [] first some is = absurd (omega (arith, some))
first_in (card ∷ others) first some is = subst (λ (c : Card). In c (card ∷ others)) (sym is) here

pub rest_in : (cards : List Card) (card : Card) → In card (rest_of cards) → In card cards
rest_in [] card i = i
rest_in (first ∷ others) card i = there (subst (In card) (sym (rest_is first others)) i)

pub none_appended : (set : ℕ) (cards : List Card) (bytes : List ℕ) → length cards < 1 → Appends (cards_named set (map id_of cards)) cards bytes bytes
unfolding cards_named
none_appended set [] bytes none = record { back = []; whole = sym (append-nil bytes); spelled = (refl, refl) }
none_appended set (card ∷ others) bytes none = absurd (omega (arith, none))

more_appended : (set : ℕ) (card : Card) (others : List Card) (old mid new : List ℕ) → Appends (card_named set (id_of card)) card old mid
    → Appends (cards_named set (map id_of others)) others mid new → Appends (cards_named set (map id_of (card ∷ others))) (card ∷ others) old new
unfolding cards_named
more_appended set card others old mid new one rest =
    shaped_appended (behind (card_named set (id_of card)) (λ first. cards_named set (map id_of others))) first_and_others (card, others) old new
    (behind_appended (card_named set (id_of card)) (λ first. cards_named set (map id_of others)) card others old mid new one rest) refl

-- what is appended for the cards of a set
abbrev pub AreAppended : List Card → (old new : List ℕ) → Type 0
AreAppended cards old new = (set : ℕ) → ((card : Card) → In card cards → card.set ≡ set) → Appends (cards_named set (map id_of cards)) cards old new

pub cards_appended : {E : Type 0} (cards : List Card) (first : Card) (old mid new : List ℕ) (result : Result (Unit {0}) E) → 0 < length cards
    → first ≡ get_or cards 0 first → ((set : ℕ) → first.set ≡ set → Appends (card_named set (id_of first)) first old mid)
    → OnOk result (AreAppended (rest_of cards) mid new) → OnOk result (AreAppended cards old new)
cards_appended [] first old mid new result some is one rest = absurd (omega (arith, some))
cards_appended (card ∷ others) first old mid new result some is one rest =
    on_ok_weaker result
    (λ more set of_set. more_appended set card others old mid new
    (subst (λ (c : Card). (s : ℕ) → c.set ≡ s → Appends (card_named s (id_of c)) c old mid) is one set (of_set card here))
    (subst (λ (l : List Card). AreAppended l mid new) (sym (rest_is card others)) more set (λ c i. of_set c (there i))))
    rest

-- ---- their ids

abbrev pub ids_in : List MemberId → List Id
ids_in members = map (λ (id : MemberId). id.0.0) members

pub no_ids_appended : (cards : List Card) (members : List MemberId) → length cards < 1 → ids_in members ≡ ids_in members ++ map card_id cards
no_ids_appended [] members none = sym (append-nil (ids_in members))
no_ids_appended (card ∷ others) members none = absurd (omega (arith, none))

pub ids_appended : {E : Type 0} (cards : List Card) (first : Card) (member : MemberId) (old mid new : List MemberId) (result : Result (Unit {0}) E)
    → 0 < length cards → first ≡ get_or cards 0 first → member.0.0 ≡ card_id first → mid ≡ old ++ member ∷ []
    → OnOk result (ids_in new ≡ ids_in mid ++ map card_id (rest_of cards)) → OnOk result (ids_in new ≡ ids_in old ++ map card_id cards)
ids_appended [] first member old mid new result some is id pushed rest = absurd (omega (arith, some))
ids_appended (card ∷ others) first member old mid new result some is id pushed rest =
    on_ok_weaker result
    (λ more. more
    ∙ ap (λ (l : List Card). ids_in mid ++ map card_id l) (sym (rest_is card others))
    ∙ ap (λ (l : List Id). l ++ map card_id others) (ap ids_in pushed ∙ map-append (λ (i : MemberId). i.0.0) old (member ∷ []))
    ∙ append_assoc (ids_in old) (member.0.0 ∷ []) (map card_id others)
    ∙ ap (λ (i : Id). ids_in old ++ i ∷ map card_id others) (id ∙ ap card_id is))
    rest

-- the members that were appended to none, as a slice shows them
pub all_ids : (cards : List Card) (start new seen : List MemberId) → start ≡ [] → ids_in new ≡ ids_in start ++ map card_id cards → seen ≡ new
    → ids_in seen ≡ map card_id cards
all_ids cards start new seen none all same = ap ids_in same ∙ all ∙ ap (λ (l : List MemberId). ids_in l ++ map card_id cards) none

pub few_ids : (cards : List Card) (seen : List MemberId) → ids_in seen ≡ map card_id cards → length cards ≤ 32 → length seen ≤ 32
few_ids cards seen same few =
    omega (arith, length-map seen (λ (id : MemberId). id.0.0), length-map cards card_id, ap length same, few)

-- ---- who has places

pub is_none : (cards : List Card) (b : Bool) → IsTrue b ↔ (cards ≡ []) → b ≡ true → cards ≡ []
is_none cards b says holds = says.0 holds

pub are_some : (cards : List Card) (b : Bool) → IsTrue b ↔ (cards ≡ []) → b ≡ false → 0 < length cards
are_some [] b says fails = let holds : b ≡ true = says.1 refl in absurd cc
are_some (card ∷ others) b says fails = omega arith

pub by_history : (ids : List Id) (cards : List Card) → cards ≡ [] → placed_by ids cards ≡ ids
by_history ids cards none = ap (placed_by ids) none

pub by_cards : (ids : List Id) (cards : List Card) → 0 < length cards → placed_by ids cards ≡ map card_id cards
by_cards ids [] some = absurd (omega (arith, some))
by_cards ids (card ∷ others) some = refl

-- ---- a body

created : (set : ℕ) (card : Card) (others : List Card) (made : List AddressedPart) (start mid new bytes : List ℕ) → start ≡ []
    → Appends (cards_named set (map id_of (card ∷ others))) (card ∷ others) start mid → Appends (parts set 31) made mid new → bytes ≡ new
    → layouts.Spells (create_body set (map id_of (card ∷ others))) bytes (record { cards = card ∷ others; parts = made; history = None; text = None })
unfolding create_body
created set card others made start mid new bytes none one two is =
    let both = behind_appended (cards_named set (map id_of (card ∷ others))) (λ cards. parts set 31) (card ∷ others) made start mid new one two in
    let whole : bytes ≡ both.back = is ∙ both.whole ∙ ap (λ (l : List ℕ). l ++ both.back) none in (
      (card ∷ others, made),
      subst (λ (l : List ℕ). layouts.Spells (behind (cards_named set (map id_of (card ∷ others))) (λ cards. parts set 31)) l (card ∷ others, made)) (sym whole)
          both.spelled,
      refl,
      refl,
    )

module _ {K P : Type 0} (kem : Ghosts K P) (ids : List Id) where
  pub founded : (cards : List Card) (bits : ℕ → Bool) (seed : Bytes) (drawn : List Drawn) (before after : HeldBook) (to : List Receiver)
      (made : List AddressedPart) (start mid new bytes : List ℕ) → 0 < length cards → AreReceivers (map card_id cards) bits to
      → AreMadeFor kem to seed drawn before after made → start ≡ [] → Appends (cards_named kem.SET (map id_of cards)) cards start mid
      → ((greatest : ℕ) → length to ≤ greatest → Appends (parts kem.SET greatest) made mid new) → bytes ≡ new
      → IsSeededBody kem ids cards bits seed drawn before after bytes
  founded [] bits seed drawn before after to made start mid new bytes some receivers are none one two is = absurd (omega (arith, some))
  founded (card ∷ others) bits seed drawn before after to made start mid new bytes some receivers are none one two is = record {
    to = to;
    receivers = receivers;
    parts = made;
    made = are;
    spelled = λ few. created kem.SET card others made start mid new bytes none one (two 31 (subst (λ n. n ≤ 31) are.count few)) is;
  }

  -- without cards
  pub unfounded : (cards : List Card) (bits : ℕ → Bool) (seed : Bytes) (drawn : List Drawn) (before after : HeldBook) (bytes : List ℕ)
      → cards ≡ [] → IsPartsBody kem ids bits seed drawn before after bytes → IsSeededBody kem ids cards bits seed drawn before after bytes
  unfounded [] bits seed drawn before after bytes none b =
      record { to = b.to; receivers = b.receivers; parts = b.parts; made = b.made; spelled = λ few. b.spelled 31 few }
  unfounded (card ∷ others) bits seed drawn before after bytes none b = absurd cc
