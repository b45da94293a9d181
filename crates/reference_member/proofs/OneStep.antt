-- A record is that of one step.
use Rattle.std.proofs.Common.{◌≡◌, ℕ, List, [], ◌∷◌, ◌++◌, length, take, drop, refl, sym, ◌∙◌, ap, arith}
use Rattle.std.specs.Prelude.{Result, Ok}
use Rattle.std.proofs.lemmas.List.{take_at, drop_at}
use Rattle.kem_trait.specs.declared.kem.Kem.{Ghosts}
use Rattle.group_fields.specs.Cards as card_words
use Rattle.group_fields.specs.Cards.{spelling}
use Rattle.group_fields.specs.LayoutReads.{Found, found, read}
use Rattle.group_fields.specs.declared.card.Card.{Card}
use Rattle.group_fields.specs.declared.fault.FieldFault.{FieldFault}
use Rattle.group_fields.proofs.LayoutLaws.{complete}
use Rattle.group_model.specs.Sets.{Bytes, In, here, there}
use Rattle.reference_member.specs.Steps.{Add, Create, FitsRecord, HasBytes, HasRecord, Init, Input, Remove, Send, Step, Take, Update, record_of, record_with, spellings}

-- ---- lists

first-one : {x y : ℕ} {xs ys : Bytes} → x ∷ xs ≡ y ∷ ys → x ≡ y
first-one e = cc

rest-one : {x y : ℕ} {xs ys : Bytes} → x ∷ xs ≡ y ∷ ys → xs ≡ ys
rest-one e = cc

-- what stands behind fronts of one length
front-one : (a b c d : Bytes) → length a ≡ length b → a ++ c ≡ b ++ d → a ≡ b
front-one a b c d l e = sym (take_at a c (length b) l) ∙ ap (take (length b)) e ∙ take_at b d (length b) refl

back-one : (a b c d : Bytes) → length a ≡ length b → a ++ c ≡ b ++ d → c ≡ d
back-one a b c d l e = sym (drop_at a c (length b) l) ∙ ap (drop (length b)) e ∙ drop_at b d (length b) refl

-- ---- cards

found-one : {A : Type 0} (a b : A) (p q : ℕ) (r s : Bytes) → ◌≡◌ {A = Result (Found A) FieldFault} (Ok (found a p r)) (Ok (found b q s))
    → (a ≡ b) × (r ≡ s)
found-one a b p q r s e =
    let same : found a p r ≡ found b q s = cc in
    (ap (λ (f : Found _). f.value) same, ap (λ (f : Found _). f.rest) same)

card-front : (x y : Card) (c d : Bytes) → HasBytes x → HasBytes y → spelling x ++ c ≡ spelling y ++ d → (x ≡ y) × (c ≡ d)
card-front x y c d of_x of_y e =
    found-one x y _ _ c d
    (sym (complete card_words.card 0 (spelling x) c x of_x) ∙ ap (read card_words.card 0) e
    ∙ complete card_words.card 0 (spelling y) d y of_y)

cards-one : (a b : List Card) → length a ≡ length b → ((card : Card) → In card a → HasBytes card)
    → ((card : Card) → In card b → HasBytes card) → spellings a ≡ spellings b → a ≡ b
cards-one [] [] l f g e = refl
cards-one [] (y ∷ b) l f g e = absurd (omega (arith, l))
cards-one (x ∷ a) [] l f g e = absurd (omega (arith, l))
cards-one (x ∷ a) (y ∷ b) l f g e =
    let one = card-front x y (spellings a) (spellings b) (f x here) (g y here) e in
    let others : a ≡ b = cards-one a b (omega (arith, l)) (λ card i. f card (there i)) (λ card i. g card (there i)) one.1 in
    let head : x ≡ y = one.0 in
    cc

-- ---- steps

module _ {K P : Type 0} (kem : Ghosts K P) where
  inputs-one : (i j : Input) (r s : Bytes) → length r ≡ 32 → length s ≡ 32 → FitsRecord kem i → FitsRecord kem j
      → record_with kem.SET r i ≡ record_with kem.SET s j → (i ≡ j) × (r ≡ s)
  inputs-one (Init v h) (Init w k) r s lr ls fi fj e =
      let l : length v ≡ length w = fi.0 ∙ sym fj.0 in
      let tail = rest-one (rest-one e) in
      let height : h ≡ k = first-one tail in
      let inviter : v ≡ w = front-one v w r s l (rest-one tail) in
      (cc, back-one v w r s l (rest-one tail))
  inputs-one (Create a) (Create b) r s lr ls fi fj e =
      let l : length r ≡ length s = lr ∙ sym ls in
      let tail = back-one r s _ _ l (rest-one e) in
      let same : a ≡ b = cards-one a b (first-one tail) fi.0 fj.0 (rest-one tail) in
      (ap Create same, front-one r s _ _ l (rest-one e))
  inputs-one (Add x) (Add y) r s lr ls fi fj e =
      let l : length r ≡ length s = lr ∙ sym ls in
      let tail = back-one r s _ _ l (rest-one e) in
      let same : x ≡ y = (card-front x y [] [] fi fj (ap (λ z. z ++ []) tail)).0 in
      (ap Add same, front-one r s _ _ l (rest-one e))
  inputs-one (Remove x) (Remove y) r s lr ls fi fj e =
      let l : length r ≡ length s = lr ∙ sym ls in
      (ap Remove (back-one r s x y l (rest-one e)), front-one r s x y l (rest-one e))
  inputs-one Update Update r s lr ls fi fj e = (refl, rest-one e)
  inputs-one (Send x) (Send y) r s lr ls fi fj e =
      let l : length r ≡ length s = lr ∙ sym ls in
      (ap Send (back-one r s x y l (rest-one e)), front-one r s x y l (rest-one e))
  inputs-one (Take x) (Take y) r s lr ls fi fj e =
      let l : length r ≡ length s = lr ∙ sym ls in
      (ap Take (back-one r s x y l (rest-one e)), front-one r s x y l (rest-one e))
  inputs-one _ _ r s lr ls fi fj e = absurd (omega (arith, first-one e))

  step-one : (i j : Input) (r s : Bytes) → i ≡ j → r ≡ s
      → ◌≡◌ {A = Step} (record { input = i; random = r }) (record { input = j; random = s })
  step-one i j r s e d = rw (e, d) refl

  pub one-step : (a b : Step) → HasRecord kem a → HasRecord kem b → record_of kem.SET a ≡ record_of kem.SET b → a ≡ b
  one-step a b x y e =
      let k = inputs-one a.input b.input a.random b.random x.random y.random x.input y.input e in
      step-one a.input b.input a.random b.random k.0 k.1
