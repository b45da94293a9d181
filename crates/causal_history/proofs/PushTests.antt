-- Whether a row may be pushed.
use Rattle.std.proofs.Common.{◌≡◌, ℕ, zero, suc, ◌+◌, ◌<◌, ◌≤◌, inl, inr, ◌↔◌, Bool, true, false, cond, IsTrue, List, [], ◌∷◌, ◌++◌, length, get_or, slice_get, map, take, Result, Ok, Err, IfOk, Some, refl, sym, ◌∙◌, ap, subst, arith}
use Rattle.std.proofs.lemmas.List.{length-map, length-append}
use Rattle.group_fields.specs.Cards as card_words
use Rattle.group_fields.specs.Cards.{card_id}
use Rattle.group_fields.specs.declared.card.Card.{Card}
use Rattle.group_fields.specs.declared.ids.Digest.{Digest}
use Rattle.group_model.specs.Sets.{Id, In, here, has, IsDistinct}
use Rattle.group_model.specs.Membership.{joined, named_by, with_id}
use Rattle.group_model.proofs.ListFacts.{In-has, In-cases, In-either, In-nothing}
use Rattle.group_model.proofs.RemoveWins.{joined-left, joined-either}
use Rattle.group_fields.specs.declared.header.Kind.{Kind as HeaderKind}
use Rattle.group_fields.specs.declared.header.Kind.TheVariants as kinds
use Rattle.group_fields.specs.declared.header.Target.{Target}
use Rattle.group_messages.specs.Messages.{ids_of, kind_by}
use Rattle.causal_history.specs.Rows.{AreCardsOf}
use Rattle.causal_history.proofs.ListMore.{get-in, get-map, get-one, take-next}
use Rattle.causal_history.proofs.TableFacts.{not_has}

-- ---- how many ids are new

pub joined-append : (base xs ys : List Id) → joined base (xs ++ ys) ≡ joined (joined base xs) ys
joined-append base [] ys = refl
joined-append base (x ∷ xs) ys = joined-append (with_id base x) xs ys

-- an id of distinct ids isn't among those before it
distinct-before : (ids : List Id) (at : ℕ) (x : Id) → IsDistinct ids → slice_get ids at ≡ Some x → In x (take at ids) → ⊥
distinct-before [] at x d e i = absurd cc
distinct-before (y ∷ ids) zero x d e i = In-nothing i
distinct-before (y ∷ ids) (suc at) x d e i = elim (In-cases i) [
  | inl q ↦ d.0 (subst (λ z. In z ids) q (get-in ids at x e))
  | inr k ↦ distinct-before ids at x d.1 e k
]

pub count-new : (base : List Id) (ids : List Digest) (at count : ℕ) (id : Digest) → IsDistinct (ids_of ids) → slice_get ids at ≡ Some id
    → (In id.0 base → ⊥) → length (joined base (take at (ids_of ids))) ≡ length base + count
    → length (joined base (take (at + 1) (ids_of ids))) ≡ length base + (count + 1)
count-new base ids at count id d e n before =
    let k : slice_get (ids_of ids) at ≡ Some id.0 = get-map (λ (z : Digest). z.0) ids at id e in
    let f : has (joined base (take at (ids_of ids))) id.0 ≡ false = not_has _ id.0 (λ i. elim (joined-either base (take at (ids_of ids)) i) [
      | inl b ↦ n b
      | inr b ↦ distinct-before (ids_of ids) at id.0 d k b
    ]) in
    let same : joined base (take (at + 1) (ids_of ids)) ≡ joined base (take at (ids_of ids)) ++ id.0 ∷ [] =
    ap (joined base) (take-next (ids_of ids) at id.0 k) ∙ joined-append base (take at (ids_of ids)) (id.0 ∷ [])
    ∙ ap (λ b. cond b (joined base (take at (ids_of ids))) (joined base (take at (ids_of ids)) ++ id.0 ∷ [])) f in
    omega (arith, ap length same, length-append (joined base (take at (ids_of ids))) (id.0 ∷ []), before)

pub count-known : (base : List Id) (ids : List Digest) (at count : ℕ) (id : Digest) → slice_get ids at ≡ Some id
    → In id.0 base → length (joined base (take at (ids_of ids))) ≡ length base + count
    → length (joined base (take (at + 1) (ids_of ids))) ≡ length base + count
count-known base ids at count id e i before =
    let k : slice_get (ids_of ids) at ≡ Some id.0 = get-map (λ (z : Digest). z.0) ids at id e in
    let t : has (joined base (take at (ids_of ids))) id.0 ≡ true = In-has _ id.0 (joined-left base (take at (ids_of ids)) i) in
    let same : joined base (take (at + 1) (ids_of ids)) ≡ joined base (take at (ids_of ids)) =
    ap (joined base) (take-next (ids_of ids) at id.0 k) ∙ joined-append base (take at (ids_of ids)) (id.0 ∷ [])
    ∙ ap (λ b. cond b (joined base (take at (ids_of ids))) (joined base (take at (ids_of ids)) ++ id.0 ∷ [])) t in
    ap length same ∙ before

pub length-with_new : (base : List Id) (x : Id) → (In x base → ⊥) → length (with_id base x) ≡ length base + 1
length-with_new base x n = let f : has base x ≡ false = not_has base x n in rw f (length-append base (x ∷ []))

pub length-with_known : (base : List Id) (x : Id) → In x base → length (with_id base x) ≡ length base
length-with_known base x i = let t : has base x ≡ true = In-has base x i in rw t refl

-- ---- cards of ids

pub cards-next : (ids : List Id) (cards : List Card) (at : ℕ) (x : Id) (c : Card) → slice_get ids at ≡ Some x → slice_get cards at ≡ Some c
    → card_words.HasSpelling c → card_id c ≡ x → AreCardsOf (take at ids) (take at cards) → AreCardsOf (take (at + 1) ids) (take (at + 1) cards)
cards-next ids cards at x c e d s is v =
    let a = take-next ids at x e in
    let b = take-next cards at c d in
    subst (λ z. AreCardsOf z (take (at + 1) cards)) (sym a) (subst (λ z. AreCardsOf (take at ids ++ x ∷ []) z) (sym b) (record {
      ids = map-push card_id (take at cards) c ∙ (ap (λ z. z ++ card_id c ∷ []) v.ids ∙ ap (λ z. take at ids ++ z ∷ []) is);
      spelled = λ card i. elim (In-either (take at cards) i) [
        | inl k ↦ v.spelled card k
        | inr k ↦ elim (In-cases k) [ inl q ↦ subst card_words.HasSpelling (sym q) s | inr q ↦ absurd (In-nothing q) ]
      ];
    }))
  where
    map-push : (f : Card → Id) (xs : List Card) (y : Card) → map f (xs ++ y ∷ []) ≡ map f xs ++ f y ∷ []
    map-push f [] y = refl
    map-push f (x ∷ xs) y = ap (λ z. f x ∷ z) (map-push f xs y)

pub cards-size : (ids : List Id) (cards : List Card) → AreCardsOf ids cards → length cards ≡ length ids
cards-size ids cards v = sym (length-map cards card_id) ∙ ap length v.ids

pub cards-at : (ids : List Id) (cards : List Card) (at : ℕ) (x : Id) (c : Card) → slice_get ids at ≡ Some x → slice_get cards at ≡ Some c
    → AreCardsOf ids cards → card_words.HasSpelling c × (card_id c ≡ x)
cards-at ids cards at x c e d v = (
  v.spelled c (get-in cards at c d),
  get-one ids at (card_id c) x (ap (λ z. slice_get z at) (sym v.ids) ∙ get-map card_id cards at c d) e,
)

pub no-cards : AreCardsOf [] []
no-cards = record { ids = refl; spelled = λ card i. absurd (In-nothing i) }

pub no-names : (k : HeaderKind) (t : Target) → (k ≡ kinds.Create → ⊥) → (k ≡ kinds.Add → ⊥) → named_by (kind_by k t) ≡ []
no-names kinds.Create t f g = absurd (f refl)
no-names kinds.Update t f g = refl
no-names kinds.Remove t f g = refl
no-names kinds.Add t f g = absurd (g refl)
no-names kinds.Ack t f g = refl
no-names kinds.AddAck t f g = refl
no-names kinds.Text t f g = refl

-- one card, and whether it is that of an id
pub one-card : {E : Type 0} (cards : List Card) (x : Id) (c : Card) (r : Result Bool E) → 1 ≤ length cards → length cards < 2 → c ≡ get_or cards 0 c
    → IfOk r (λ is. IsTrue is ↔ (card_words.HasSpelling c × (card_id c ≡ x))) → IfOk r (λ are. IsTrue are ↔ AreCardsOf (x ∷ []) cards)
one-card [] x c r l m e is = absurd (omega arith)
one-card (y ∷ (z ∷ cards)) x c r l m e is = absurd (omega arith)
one-card (y ∷ []) x c (Err error) l m e is = tt
one-card (y ∷ []) x c (Ok b) l m e is = (
  λ t. let k = is.0 t in record {
    ids = ap (λ z. z ∷ []) (ap card_id (sym e) ∙ k.1);
    spelled = λ card i. elim (In-cases i) [ inl q ↦ subst card_words.HasSpelling (e ∙ sym q) k.0 | inr n ↦ absurd (In-nothing n) ];
  },
  λ v. is.1 (subst card_words.HasSpelling (sym e) (v.spelled y here), ap card_id e ∙ head v.ids),
)
  where
    head : {a b : Id} → a ∷ [] ≡ b ∷ [] → a ≡ b
    head e = cc
