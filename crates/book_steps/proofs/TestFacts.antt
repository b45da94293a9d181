-- What the tests find out about a message.
use Rattle.std.proofs.Common.{◌≡◌, ◌∙◌, ℕ, ◌+◌, inl, inr, false, List, [], ◌∷◌, ◌++◌, length, Option, Some, None, option_map, refl, ap, sym, subst, arith, length-append, append_assoc}
use Rattle.std.specs.Prelude.{IsSome, MatchOption, is_some}
use Rattle.std.proofs.lemmas.List.{append-nil}
use Rattle.group_fields.specs.declared.ids.Digest.{Digest}
use Rattle.group_messages.specs.Messages.{ids_of}
use Rattle.group_model.specs.Marks.{HasNumber}
use Rattle.group_model.specs.Membership.{ids_named, joined, named_by}
use Rattle.group_model.specs.Messages.{Add, Create, History, Kind, Message}
use Rattle.group_model.specs.Sets.{Id, In, IsDistinct, has, here, there}
use Rattle.group_model.proofs.ListFacts.{has-In, In-cases, In-either, yes_is, no_is, test}
use Rattle.group_model.proofs.Numbers.{number-below, number-of, number-one}

pub no-rows : {A : Type 0} (xs : List A) → length xs ≡ 0 → xs ≡ []
no-rows [] e = refl
no-rows (x ∷ xs) e = absurd (omega (arith, e))

pub some-mapped : {A B : Type 0} (f : A → B) (o : Option A) (y : B) → option_map f o ≡ Some y → IsSome o
some-mapped f None y e = absurd (cc)
some-mapped f (Some x) y e = refl

pub where-none : {A : Type 0} (P : Type 0) (Q : A → Type 0) (o : Option A) → is_some o ≡ false → MatchOption o P Q → P
where-none P Q None e h = h
where-none P Q (Some x) e h = absurd (cc)

-- the only message of a history
pub only-one : (h : History) (n : Message) → length h ≡ 1 → HasNumber h 0 n → (m : Message) → In m h → n ≡ m
only-one h n one first m i =
    let at = number-of h i in let below = number-below h at.0 m at.1 in
    number-one h 0 n m first (subst (λ (k : ℕ). HasNumber h k m) (omega (arith, below, one)) at.1)

joined-new : (ids more : List Id) → IsDistinct more → ((x : Id) → In x more → In x ids → ⊥) → joined ids more ≡ ids ++ more
joined-new ids [] d apart = sym (append-nil ids)
joined-new ids (i ∷ more) d apart = elim (test (has ids i)) [
  | yes_is e ↦ absurd (apart i here (has-In ids i e))
  | no_is e ↦ rw e (joined-new (ids ++ i ∷ []) more d.1 (λ x j k. elim (In-either ids k) [
    | inl a ↦ apart x (there j) a
    | inr b ↦ elim (In-cases b) [ inl same ↦ d.0 (subst (λ (z : Id). In z more) same j) | inr none ↦ elim none [ ] ]
  ]) ∙ append_assoc ids (i ∷ []) more)
]

-- whom a create names over no history, and an add of who is new
pub created-count : (h : History) (m : Message) (ids : List Digest) → h ≡ [] → m.kind ≡ Create (ids_of ids) → IsDistinct (named_by m.kind)
    → length (ids_named (m ∷ h)) ≡ length (ids_of ids)
created-count h m ids first kind distinct = ap (λ (z : History). length (joined (ids_named z) (named_by m.kind))) first
    ∙ ap length (joined-new [] (named_by m.kind) distinct (λ x i none. elim none [ ]))
    ∙ ap (λ (k : Kind). length (named_by k)) kind

pub added-count : (h : History) (m : Message) (y : Id) → m.kind ≡ Add y → (In y (ids_named h) → ⊥)
    → length (ids_named (m ∷ h)) ≡ length (ids_named h) + 1
added-count h m y kind new = ap (λ (k : Kind). length (joined (ids_named h) (named_by k))) kind ∙ elim (test (has (ids_named h) y)) [
  | yes_is e ↦ absurd (new (has-In (ids_named h) y e))
  | no_is e ↦ rw e (length-append (ids_named h) (y ∷ []))
]
