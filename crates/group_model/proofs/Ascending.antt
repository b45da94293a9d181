-- Ascending lists of ids: they are the same where they have the same ids, and one more id has a place.
use Rattle.std.proofs.Common.{◌≡◌, ◌≢◌, ℕ, cond, ◌⊎◌, inl, inr, List, [], ◌∷◌, ◌++◌, refl, sym, ◌∙◌, ap, subst, take, drop, add-one}
use Rattle.std.specs.Ordering.{nat_cmp, is_lt, ordering_reverse}
use Rattle.std.specs.declared.cmp.Ordering.{Ordering}
use Rattle.std.specs.declared.cmp.Ordering.TheVariants.{Less, Equal, Greater}
use Rattle.std.specs.Cmp.Lexicographic.{slice_cmp}
use Rattle.std.proofs.lemmas.Cmp.{nat_list_cmp_total}
use Rattle.std.proofs.lemmas.List.{take-append-drop}
use Rattle.std.proofs.lemmas.Map.Lookups.{exact_bytes}
use Rattle.group_model.specs.Sets.{Id, In, here, there, IsBelow, IsAscending}
use Rattle.group_model.specs.Messages.{Message, History, IsHead, AreHeads}
use Rattle.group_model.specs.Membership.{AreAddressees}
use Rattle.group_model.specs.Plain.{place}
use Rattle.group_model.proofs.Pasts.{past-least, past-direct}
use Rattle.group_model.proofs.ListFacts.{In-cases, In-head, In-nothing, In-either, In-left, In-right}

-- an ordering is one of three, with the equation
pub data Order (o : Ordering) : Type 0 where
  less_is : o ≡ Less → Order o
  equal_is : o ≡ Equal → Order o
  greater_is : o ≡ Greater → Order o

pub order : (o : Ordering) → Order o
order Less = less_is refl
order Equal = equal_is refl
order Greater = greater_is refl

pub below-trans : (i j k : Id) → IsBelow i j → IsBelow j k → IsBelow i k
below-trans i j k = nat_list_cmp_total.trans i j k

pub below-not_self : (i : Id) → IsBelow i i → ⊥
below-not_self i h =
    let e : Less ≡ Greater = sym h ∙ nat_list_cmp_total.antisymm i i ∙ ap ordering_reverse h in cc

pub not_below : (i j : Id) → (IsBelow j i → ⊥) → j ≢ i → IsBelow i j
not_below i j n d = elim (order (slice_cmp nat_cmp j i)) [
  | less_is e ↦ absurd (n e)
  | equal_is e ↦ absurd (d (exact_bytes j i e))
  | greater_is e ↦ nat_list_cmp_total.antisymm i j ∙ ap ordering_reverse e
]

pub ascending-rest : (i : Id) (ids : List Id) → IsAscending (i ∷ ids) → IsAscending ids
ascending-rest i [] h = tt
ascending-rest i (j ∷ ids) h = h.1

pub ascending-above : (i : Id) (ids : List Id) → IsAscending (i ∷ ids) → (x : Id) → In x ids → IsBelow i x
ascending-above i [] h x k = absurd (In-nothing k)
ascending-above i (j ∷ ids) h x k = elim (In-cases k) [
  | inl e ↦ subst (λ z. IsBelow i z) (sym e) h.0
  | inr l ↦ below-trans i j x h.0 (ascending-above j ids h.1 x l)
]

-- what is before the first id of the one list is before all
first-same : (i j : Id) (a b : List Id) → IsAscending (i ∷ a) → IsAscending (j ∷ b) → In i (j ∷ b) → In j (i ∷ a) → i ≡ j
first-same i j a b g h x y = elim (In-cases x) [
  | inl e ↦ e
  | inr k ↦ elim (In-cases y) [
    | inl e ↦ sym e
    | inr l ↦ absurd (below-not_self i (below-trans i j i (ascending-above i a g j l) (ascending-above j b h i k)))
  ]
]

rest-within : (i j : Id) (a b : List Id) → IsAscending (i ∷ a) → i ≡ j → ((x : Id) → In x (i ∷ a) → In x (j ∷ b))
    → (x : Id) → In x a → In x b
rest-within i j a b g e f x k = elim (In-cases (f x (there k))) [
  | inl d ↦ absurd (below-not_self x (subst (λ z. IsBelow z x) (e ∙ sym d) (ascending-above i a g x k)))
  | inr l ↦ l
]

-- ascending lists with the same ids are the same
pub ascending-same : (a b : List Id) → IsAscending a → IsAscending b → ((x : Id) → In x a → In x b) → ((x : Id) → In x b → In x a) → a ≡ b
ascending-same [] [] g h f k = refl
ascending-same [] (j ∷ b) g h f k = absurd (In-nothing (k j here))
ascending-same (i ∷ a) [] g h f k = absurd (In-nothing (f i here))
ascending-same (i ∷ a) (j ∷ b) g h f k =
    let e : i ≡ j = first-same i j a b g h (f i here) (k j here) in
    let rest : a ≡ b = ascending-same a b (ascending-rest i a g) (ascending-rest j b h) (rest-within i j a b g e f) (rest-within j i b a h (sym e) k) in
    cc

-- the list of the heads is one
pub heads-same : (p : History) (a b : List Id) → AreHeads p a → AreHeads p b → a ≡ b
heads-same p a b g h = ascending-same a b g.ascending h.ascending (λ x i. from a b g h x i) (λ x i. from b a h g x i)
  where
    from : (a b : List Id) → AreHeads p a → AreHeads p b → (x : Id) → In x a → In x b
    from a b g h x i = let k = g.only x i in subst (λ z. In z b) k.2 (h.all k.0 k.1)

-- and so is that of the addressees
pub addressees-same : (rule : History → List Id) (h : History) (m : Message) (a b : List Id) → AreAddressees rule h m a → AreAddressees rule h m b → a ≡ b
addressees-same rule h m a b g k = ascending-same a b g.ascending k.ascending (λ x i. k.all x (g.only x i)) (λ x i. g.all x (k.only x i))

-- the ids with i before the first that is not before it
abbrev pub into : List Id → Id → List Id
into [] i = i ∷ []
into (j ∷ ids) i = cond (is_lt (slice_cmp nat_cmp j i)) (j ∷ into ids i) (i ∷ (j ∷ ids))

pub into-placed : (ids : List Id) (i : Id) → take (place ids i) ids ++ i ∷ drop (place ids i) ids ≡ into ids i
into-placed [] i = refl
into-placed (j ∷ ids) i = elim (order (slice_cmp nat_cmp j i)) [
  | less_is e ↦ rw (e, add-one) (ap (λ z. j ∷ z) (into-placed ids i))
  | equal_is e ↦ rw e refl
  | greater_is e ↦ rw e refl
]

-- the first of the list, where it has one, is after j
abbrev IsAfter : Id → List Id → Type 0
IsAfter j [] = Unit {0}
IsAfter j (k ∷ ids) = IsBelow j k

ascending-more : (j : Id) (ids : List Id) → IsAfter j ids → IsAscending ids → IsAscending (j ∷ ids)
ascending-more j [] h g = tt
ascending-more j (k ∷ ids) h g = (h, g)

after-rest : (j : Id) (ids : List Id) → IsAscending (j ∷ ids) → IsAfter j ids
after-rest j [] g = tt
after-rest j (k ∷ ids) g = g.0

into-after : (j i : Id) (ids : List Id) → IsBelow j i → IsAfter j ids → IsAfter j (into ids i)
into-after j i [] b h = b
into-after j i (k ∷ ids) b h = elim (order (slice_cmp nat_cmp k i)) [
  | less_is e ↦ rw e h
  | equal_is e ↦ rw e b
  | greater_is e ↦ rw e b
]

pub into-ascending : (ids : List Id) (i : Id) → IsAscending ids → (In i ids → ⊥) → IsAscending (into ids i)
into-ascending [] i g n = tt
into-ascending (j ∷ ids) i g n = elim (order (slice_cmp nat_cmp j i)) [
  | less_is e ↦ rw e (ascending-more j (into ids i) (into-after j i ids e (after-rest j ids g))
      (into-ascending ids i (ascending-rest j ids g) (λ k. n (there k))))
  | equal_is e ↦ absurd (n (In-head ids (sym (exact_bytes j i e))))
  | greater_is e ↦ rw e (nat_list_cmp_total.antisymm i j ∙ ap ordering_reverse e, g)
]

-- its ids
pub placed-In : (ids : List Id) (n : ℕ) (i x : Id) → In x (take n ids ++ i ∷ drop n ids) → (x ≡ i) ⊎ In x ids
placed-In ids n i x k = elim (In-either (take n ids) k) [
  | inl l ↦ inr (subst (λ z. In x z) (take-append-drop n ids) (In-left (drop n ids) l))
  | inr l ↦ elim (In-cases l) [
    | inl e ↦ inl e
    | inr r ↦ inr (subst (λ z. In x z) (take-append-drop n ids) (In-right (take n ids) r))
  ]
]

pub In-placed : (ids : List Id) (n : ℕ) (i x : Id) → (x ≡ i) ⊎ In x ids → In x (take n ids ++ i ∷ drop n ids)
In-placed ids n i x (inl e) = In-right (take n ids) (In-head (drop n ids) e)
In-placed ids n i x (inr k) = elim (In-either (take n ids) (subst (λ z. In x z) (sym (take-append-drop n ids)) k)) [
  | inl l ↦ In-left (i ∷ drop n ids) l
  | inr r ↦ In-right (take n ids) (there r)
]

-- a head of a set is one of its messages that no predecessor is
pub head-last : (h : History) (a : Message) → In a h → ((b : Message) → In b h → In a.id b.predecessors → ⊥) → IsHead h a
head-last h a i f = record {
  there_is = i;
  last = λ b j x. past-least h b.predecessors (λ c. c ≡ a → ⊥)
      (λ c z d e. f b j (subst (λ (y : Message). In y.id b.predecessors) e d))
      (λ c d y z q n e. f c y (subst (λ (y : Message). In y.id c.predecessors) e n)) x refl;
}

pub not_head : (h : History) (a b : Message) → In b h → In a.id b.predecessors → IsHead h a → ⊥
not_head h a b j k d = d.last b j (past-direct h b.predecessors d.there_is k)
