-- Cards that stand in bytes, one behind the other.
use Rattle.std.proofs.Common.{◌≡◌, ℕ, ◌-◌, ◌≢◌, Bool, true, false, List, [], ◌∷◌, ◌++◌, length, take, drop, inl, inr, ap, sym, subst, ◌∙◌, arith, append_assoc}
use Rattle.std.specs.Prelude.{Result, Ok, Err, MatchBool}
use Rattle.std.proofs.lemmas.List.{length-drop, take_all}
use Rattle.group_fields.specs.Cards as card_words
use Rattle.group_fields.specs.Cards.{Spells, spelling}
use Rattle.group_fields.specs.LayoutReads.{Found, Takes, found, left, read}
use Rattle.group_fields.specs.Reading.{Reading}
use Rattle.group_fields.specs.declared.card.Card.{Card}
use Rattle.group_fields.specs.declared.fault.FieldFault.{FieldFault}
use Rattle.group_fields.proofs.CardBytes.{spelling_is}
use Rattle.group_fields.proofs.LayoutLaws.{complete, found_is}
use Rattle.group_model.specs.Sets.{Bytes, here, there}
use Rattle.group_model.proofs.ListFacts.{In-cases}
use Rattle.reference_member.specs.Steps.{HasBytes, spellings}
use Rattle.step_records.specs.CardLists.{AreCards, AreNoCards, HasNoFront, IsFront, PutsCards}

-- ---- the first card

at-start : (bytes : Bytes) (old : Reading) → old ≡ record { whole = bytes; place = 0 } → read card_words.card old.place (left old) ≡ read card_words.card 0 bytes
at-start bytes old start = ap (λ (o : Reading). read card_words.card o.place (left o)) start

pub no-front : (bytes : Bytes) (old new : Reading) (fault : FieldFault) → old ≡ record { whole = bytes; place = 0 }
    → Takes {A = Card} (λ (card : Card). card) card_words.card old new (Err fault) → HasNoFront bytes
no-front bytes old new fault start takes card rest front =
    let stops : read card_words.card 0 bytes ≡ Err fault = sym (at-start bytes old start) ∙ takes.gives in
    let goes = ap (read card_words.card 0) (sym front.is) ∙ complete card_words.card 0 (spelling card) rest card front.spelled in
    cc

pub front-is : (bytes : Bytes) (old new : Reading) (card : Card) → old ≡ record { whole = bytes; place = 0 }
    → Takes {A = Card} (λ (card : Card). card) card_words.card old new (Ok card)
    → IsFront bytes card (take (length bytes - new.place) (drop new.place bytes))
front-is bytes old new card start takes =
    let is = found_is card_words.card 0 bytes (found card new.place (left new)) (sym (at-start bytes old start) ∙ takes.gives) in
    let own : is.front ≡ spelling card = spelling_is card is.front is.spelled in
    let whole : new.whole ≡ bytes = takes.same ∙ ap (λ (o : Reading). o.whole) start in
    let rest : take (length bytes - new.place) (drop new.place bytes) ≡ drop new.place bytes =
    take_all (length bytes - new.place) (drop new.place bytes) (omega (arith, length-drop new.place bytes)) in
    record {
      spelled = subst (λ (b : Bytes). Spells card b) own is.spelled;
      is = ap (λ (b : Bytes). spelling card ++ b) (rest ∙ ap (λ (w : Bytes). drop new.place w) (sym whole))
          ∙ ap (λ (b : Bytes). b ++ left new) (sym own) ∙ sym is.whole;
    }

-- ---- the others

found-one : (a b : Card) (p q : ℕ) (r s : Bytes) → ◌≡◌ {A = Result (Found Card) FieldFault} (Ok (found a p r)) (Ok (found b q s)) → (a ≡ b) × (r ≡ s)
found-one a b p q r s e =
    let same : found a p r ≡ found b q s = cc in
    (ap (λ (f : Found Card). f.value) same, ap (λ (f : Found Card). f.rest) same)

-- bytes begin with one card at most
one-front : (bytes : Bytes) (a b : Card) (r s : Bytes) → IsFront bytes a r → IsFront bytes b s → r ≡ s
one-front bytes a b r s x y =
    (found-one a b _ _ r s
    (sym (complete card_words.card 0 (spelling a) r a x.spelled) ∙ ap (read card_words.card 0) (x.is ∙ sym y.is)
    ∙ complete card_words.card 0 (spelling b) s b y.spelled)).1

first-of : (card : Card) (cards : List Card) (count : ℕ) (bytes : Bytes) → AreCards count bytes (card ∷ cards)
    → IsFront bytes card (spellings cards)
first-of card cards count bytes are = record { spelled = are.spelled card here; is = are.are }

pub no-first : (count : ℕ) (bytes : Bytes) → count ≢ 0 → HasNoFront bytes → AreNoCards count bytes
no-first count bytes some none [] are = some (sym are.number)
no-first count bytes some none (card ∷ cards) are = none card (spellings cards) (first-of card cards count bytes are)

module _ (count : ℕ) (bytes rest : Bytes) (card : Card) (some : count ≢ 0) (front : IsFront bytes card rest) where
  with-first : (cards : List Card) → AreCards (count - 1) rest cards → AreCards count bytes (card ∷ cards)
  with-first cards others = record {
    number = omega (arith, others.number, some);
    spelled = λ c i. elim (In-cases i) [
      | inl e ↦ subst HasBytes (sym e) front.spelled
      | inr j ↦ others.spelled c j
    ];
    are = ap (λ (b : Bytes). spelling card ++ b) others.are ∙ front.is;
  }

  no-others : AreNoCards (count - 1) rest → AreNoCards count bytes
  no-others none [] are = some (sym are.number)
  no-others none (c ∷ cards) are = none cards (record {
    number = omega (arith, are.number);
    spelled = λ d i. are.spelled d (there i);
    are = one-front bytes c card (spellings cards) rest (first-of c cards count bytes are) front;
  })

  -- the cards behind the first are put behind it, or there are none such
  pub more-put : (old mid new : List Card) (b : Bool) → mid ≡ old ++ card ∷ []
      → MatchBool b (PutsCards (count - 1) rest mid new) (AreNoCards (count - 1) rest)
      → MatchBool b (PutsCards count bytes old new) (AreNoCards count bytes)
  more-put old mid new true pushed put = record {
    cards = card ∷ put.cards;
    whole = put.whole ∙ ap (λ (l : List Card). l ++ put.cards) pushed ∙ append_assoc old (card ∷ []) put.cards;
    are = with-first put.cards put.are;
  }
  more-put old mid new false pushed none = no-others none
