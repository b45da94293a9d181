-- More members that are met, one after the other.
use Rattle.std.proofs.Common.{true, ◌≡◌, ◌⊎◌, inl, inr, ℕ, zero, suc, ◌<◌, ◌+◌, ◌-◌, ◌≤◌, Bool, false, cond, List, [], ◌∷◌, ◌++◌, length, map, take, drop, get_or, Some, refl, sym, ◌∙◌, ap, subst, arith, bytes_eq}
use Rattle.std.specs.Prelude.{find, Result, OnOk}
use Rattle.std.proofs.lemmas.List.{take_all}
use Rattle.std.proofs.lemmas.Result.{on_ok_weaker}
use Rattle.kem_trait.specs.declared.kem.Kem.{Ghosts}
use Rattle.group_fields.specs.Cards.{HasSpelling, card_id}
use Rattle.group_fields.specs.declared.card.Card.{Card}
use Rattle.group_model.specs.Sets.{Bytes, Id, In, here, there, has, IsDistinct}
use Rattle.group_model.specs.Marks.{IsPlace}
use Rattle.group_model.specs.Membership.{joined, with_id}
use Rattle.group_model.specs.Settings.{Owner}
use Rattle.group_model.proofs.ListFacts.{In-cases, In-either, In-nothing, In-has, has-In, test, yes_is, no_is}
use Rattle.group_model.proofs.Places.{place-in}
use Rattle.member_book.specs.Books.{BookState}
use Rattle.causal_history.specs.Rows.{Row, card_in, cards_of}
use Rattle.secret_book.specs.HeldBooks.{BookTable, held}
use Rattle.book_standing.specs.Standing.{HeldStands}
use Rattle.met_members.specs.Meeting.{AreMet, AreNew, CanMeet, MeetsMore, SaysKeys}

-- ---- lists of ids

pub has-not : (ids : List Id) (x : Id) → (In x ids → ⊥) → has ids x ≡ false
has-not ids x n = elim (test (has ids x)) [ yes_is e ↦ absurd (n (has-In ids x e)) | no_is e ↦ e ]

-- a new id stands behind the others
pub with-new : (ids : List Id) (x : Id) → (In x ids → ⊥) → ids ++ x ∷ [] ≡ with_id ids x
with-new ids x n = sym (ap (λ (t : Bool). cond t ids (ids ++ x ∷ [])) (has-not ids x n))

in-with : (ids : List Id) (x y : Id) → (In x ids → ⊥) → In y (with_id ids x) → In y ids ⊎ (y ≡ x)
in-with ids x y n i = elim (In-either ids (subst (λ (l : List Id). In y l) (sym (with-new ids x n)) i)) [
  | inl a ↦ inl a
  | inr b ↦ elim (In-cases b) [ inl e ↦ inr e | inr c ↦ absurd (In-nothing c) ]
]

in-map : {c : Card} {cards : List Card} → In c cards → In (card_id c) (map card_id cards)
in-map here = here
in-map (there i) = there (in-map i)

-- the others are new once the first was met
pub rest-new : (ids : List Id) (c : Card) (cards : List Card) → AreNew ids (c ∷ cards) → AreNew (with_id ids (card_id c)) cards
rest-new ids c cards new = record {
  distinct = new.distinct.1;
  others = λ d i j. elim (in-with ids (card_id c) (card_id d) (new.others c here) j) [
    | inl a ↦ new.others d (there i) a
    | inr e ↦ new.distinct.0 (subst (λ (z : Id). In z (map card_id cards)) e (in-map i))
  ];
}

-- the ids up to a place, and the one at it
pub take-more : (ids : List Id) (p : ℕ) (x : Id) → IsPlace ids p x → take p ids ++ x ∷ [] ≡ take (p + 1) ids
take-more [] p x e = absurd cc
take-more (i ∷ ids) zero x e = ap (λ (z : Id). z ∷ []) (let same : i ≡ x = cc in sym same)
take-more (i ∷ ids) (suc p) x e =
    let number : suc (p + 1) ≡ suc p + 1 = omega arith in
    ap (λ (l : List Id). i ∷ l) (take-more ids p x e) ∙ ap (λ (n : ℕ). take n (i ∷ ids)) number

-- the id at a place doesn't stand before it
pub not-before : (ids : List Id) (p : ℕ) (x : Id) → IsDistinct ids → IsPlace ids p x → In x (take p ids) → ⊥
not-before [] p x d e i = absurd cc
not-before (y ∷ ids) zero x d e i = In-nothing i
not-before (y ∷ ids) (suc p) x d e i = elim (In-cases i) [
  | inl same ↦ d.0 (subst (λ (z : Id). In z ids) same (place-in ids p x e))
  | inr j ↦ not-before ids p x d.1 e j
]

-- ---- cards

pub find-in : (f : Card → Bool) (cards : List Card) (c : Card) → find f cards ≡ Some c → In c cards
find-in f [] c e = absurd cc
find-in f (d ∷ cards) c e = elim (test (f d)) [
  | yes_is y ↦ (let k : Some d ≡ Some c = rw y at e in let same : d ≡ c = cc in subst (λ (z : Card). In z (d ∷ cards)) same here)
  | no_is n ↦ there (find-in f cards c (rw n at e))
]

pub card-there : (rows : List Row) (x : Id) (c : Card) → card_in rows x ≡ Some c → In c (cards_of rows)
unfolding card_in
card-there rows x c e = find-in (λ (card : Card). bytes_eq (card_id card) x) (cards_of rows) c e

-- all cards of a slice but the first
abbrev pub rest_of : List Card → List Card
rest_of cards = take (length cards - 1) (drop 1 cards)

pub rest-is : (c : Card) (cards : List Card) → cards ≡ rest_of (c ∷ cards)
rest-is c cards = sym (take_all (length (c ∷ cards) - 1) cards (omega arith))

-- ---- what is met

module _ {K P : Type 0} (kem : Ghosts K P) (me : Id) where
  -- nobody more
  pub met-none : (cards : List Card) (ids : List Id) (b : BookTable) → AreMet ids me b → MeetsMore kem me cards ids ids b b
  met-none cards ids b met = record { met = met; stands = λ O state own says h. h }

  -- one more
  pub met-one : (cards : List Card) (ids after : List Id) (x : Id) (key : Bytes) (old new : BookTable) → ids ++ x ∷ [] ≡ after
      → ((O : Owner) → SaysKeys O cards → O.public_key x ≡ key)
      → AreMet (ids ++ x ∷ []) me new × ((O : Owner) (state : BookState) → O.id ≡ me → O.public_key x ≡ key
      → HeldStands kem O ids (held old) state → HeldStands kem O (ids ++ x ∷ []) (held new) state)
      → MeetsMore kem me cards ids after old new
  met-one cards ids after x key old new is says one = subst (λ (l : List Id). MeetsMore kem me cards ids l old new) is (record {
    met = one.0;
    stands = λ O state own said h. one.1 O state own (says O said) h;
  })

  -- and then others
  pub met-both : (a b cards : List Card) (ids mid after : List Id) (old between new : BookTable)
      → ((c : Card) → In c a → In c cards) → ((c : Card) → In c b → In c cards)
      → MeetsMore kem me a ids mid old between → MeetsMore kem me b mid after between new → MeetsMore kem me cards ids after old new
  met-both a b cards ids mid after old between new in-a in-b first then = record {
    met = then.met;
    stands = λ O state own says h.
        then.stands O state own (λ c i. says c (in-b c i)) (first.stands O state own (λ c i. says c (in-a c i)) h);
  }

  -- the cards of a slice
  pub each-none : (cards : List Card) (b : BookTable) → length cards < 1 → (ids : List Id) → AreMet ids me b → AreNew ids cards
      → MeetsMore kem me cards ids (joined ids (map card_id cards)) b b
  each-none [] b l ids met new = met-none [] ids b met
  each-none (c ∷ cards) b l ids met new = absurd (omega (arith, l))

  -- the first of the cards was met
  abbrev pub FirstMet : Card → (old between : BookTable) → Type 0
  FirstMet first old between = (ids : List Id) → AreMet ids me old → (In (card_id first) ids → ⊥)
      → MeetsMore kem me (first ∷ []) ids (with_id ids (card_id first)) old between

  -- what is asked before it is
  pub first-can : (cards : List Card) (first : Card) (old : BookTable) → 0 < length cards → first ≡ get_or cards 0 first
      → ((ids : List Id) × AreMet ids me old × AreNew ids cards)
      → (ids : List Id) × AreMet ids me old × (In (card_id first) ids → ⊥)
  first-can [] first old l is met = absurd (omega (arith, l))
  first-can (c ∷ cards) first old l is met =
      (met.0, met.1, subst (λ (z : Card). In (card_id z) met.0 → ⊥) (sym is) (met.2.others c here))

  -- what is asked before the others are met
  pub each-can : (cards : List Card) (first : Card) (old between : BookTable) → 0 < length cards → first ≡ get_or cards 0 first
      → ((ids : List Id) × AreMet ids me old × AreNew ids cards) → FirstMet first old between
      → (ids : List Id) × AreMet ids me between × AreNew ids (rest_of cards)
  each-can [] first old between l is met one = absurd (omega (arith, l))
  each-can (c ∷ cards) first old between l is met one =
      let one-c = subst (λ (z : Card). FirstMet z old between) is one in (
        with_id met.0 (card_id c),
        (one-c met.0 met.1 (met.2.others c here)).met,
        subst (λ (z : List Card). AreNew (with_id met.0 (card_id c)) z) (rest-is c cards) (rest-new met.0 c cards met.2),
      )

  length-more : (ids : List Id) (x : Id) → length (ids ++ x ∷ []) ≡ length ids + 1
  length-more [] x = refl
  length-more (i ∷ ids) x = let r = length-more ids x in omega (arith, r)

  pub each-room : (cards : List Card) (first : Card) (old between : BookTable) → 0 < length cards → first ≡ get_or cards 0 first
      → length old.places + length cards ≤ 256 → ((ids : List Id) × AreMet ids me old × AreNew ids cards) → FirstMet first old between
      → length between.places + length (rest_of cards) ≤ 256
  each-room [] first old between l is room met one = absurd (omega (arith, l))
  each-room (c ∷ cards) first old between l is room met one =
      let one-c = subst (λ (z : Card). FirstMet z old between) is one in
      let count = (one-c met.0 met.1 (met.2.others c here)).met.count in
      let more : length (with_id met.0 (card_id c)) ≡ length met.0 + 1 =
      ap length (sym (with-new met.0 (card_id c) (met.2.others c here))) ∙ length-more met.0 (card_id c) in
      let before = met.1.count in
      let rest : length (rest_of (c ∷ cards)) ≡ length cards = ap length (sym (rest-is c cards)) in
      omega (arith, count, more, before, rest, room)

  pub each-met : {E : Type 0} (cards : List Card) (first : Card) (old between new : BookTable) (result : Result (Unit {0}) E)
      → 0 < length cards → first ≡ get_or cards 0 first → FirstMet first old between
      → OnOk result ((ids : List Id) → AreMet ids me between → AreNew ids (rest_of cards)
      → MeetsMore kem me (rest_of cards) ids (joined ids (map card_id (rest_of cards))) between new)
      → OnOk result ((ids : List Id) → AreMet ids me old → AreNew ids cards
      → MeetsMore kem me cards ids (joined ids (map card_id cards)) old new)
  each-met [] first old between new result l is one others = absurd (omega (arith, l))
  each-met (c ∷ cards) first old between new result l is one others =
      on_ok_weaker result
      (λ more ids met fresh.
      let one-c = subst (λ (z : Card). FirstMet z old between) is one ids met (fresh.others c here) in
      let then = subst (λ (z : List Card). AreNew (with_id ids (card_id c)) z → MeetsMore kem me z (with_id ids (card_id c))
      (joined (with_id ids (card_id c)) (map card_id z)) between new) (sym (rest-is c cards)) (more (with_id ids (card_id c)) one-c.met) in
      met-both (c ∷ []) cards (c ∷ cards) ids (with_id ids (card_id c)) (joined ids (map card_id (c ∷ cards))) old between new
      (λ d i. elim (In-cases i) [ inl e ↦ subst (λ (z : Card). In z (c ∷ cards)) (sym e) here | inr n ↦ absurd (In-nothing n) ])
      (λ d i. there i) one-c (then (rest-new ids c cards fresh)))
      others

-- the first of cards is one of them
pub first-there : (cards : List Card) (first : Card) → 0 < length cards → first ≡ get_or cards 0 first → In first cards
first-there [] first l is = absurd (omega (arith, l))
first-there (c ∷ cards) first l is = subst (λ (z : Card). In z (c ∷ cards)) (sym is) here

-- the others can be met where all can
pub rest-can : {K P : Type 0} (kem : Ghosts K P) (cards : List Card) → CanMeet kem cards → CanMeet kem (rest_of cards)
rest-can kem [] can = can
rest-can kem (c ∷ cards) can = subst (CanMeet kem) (rest-is c cards)
    (record { spelled = λ d i. can.spelled d (there i); keys = λ d i. can.keys d (there i) })

-- before anybody was met
pub none-met : (me : Id) (b : BookTable) → length b.places ≡ 0 → AreMet [] me b
none-met me b none = record { count = none; others = λ p x at. absurd cc }

pub none-new : (cards slice : List Card) → slice ≡ cards → IsDistinct (map card_id cards) → AreNew [] slice
none-new cards slice is distinct = record {
  distinct = subst (λ (l : List Card). IsDistinct (map card_id l)) (sym is) distinct;
  others = λ card i none. In-nothing none;
}

-- an id that stands there is not put there again
pub with-old : (ids : List Id) (x : Id) → In x ids → ids ≡ with_id ids x
with-old ids x i = sym (ap (λ (t : Bool). cond t ids (ids ++ x ∷ [])) (In-has ids x i))

-- one card
pub one-can : {K P : Type 0} (kem : Ghosts K P) (cards : List Card) (card : Card) → cards ≡ card ∷ [] → HasSpelling card
    → kem.is_public card.kem_public ≡ true → CanMeet kem cards
one-can kem cards card is spelled key = subst (CanMeet kem) (sym is) (record {
  spelled = λ d i. subst HasSpelling (sym (only d i)) spelled;
  keys = λ d i. subst (λ (z : Card). kem.is_public z.kem_public ≡ true) (sym (only d i)) key;
})
  where
    only : (d : Card) → In d (card ∷ []) → d ≡ card
    only d i = elim (In-cases i) [ inl e ↦ e | inr n ↦ absurd (In-nothing n) ]
