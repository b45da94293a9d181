-- Conditions of the kinds, by marks and places.
use Rattle.std.proofs.Common.{IsTrue, ◌≡◌, ◌≢◌, ℕ, zero, suc, ◌+◌, ◌<◌, ◌≤◌, Bool, true, false, not, ◌⊎◌, inl, inr, ◌↔◌, List, [], ◌∷◌, length, get_or, refl, sym, ◌∙◌, subst, arith}
use Rattle.std.proofs.lemmas.Option.{slice_get_within, slice_get-get_or}
use Rattle.group_model.specs.Sets.{Id, In, here, there, IsDistinct}
use Rattle.group_model.specs.Messages.{Kind, Create, Update, Remove, Add, Ack, AddAck, Text, Message, History, IsHistory, Stands, past, with_past}
use Rattle.group_model.specs.Membership.{Named, InView, IsMembershipRule, ids_named}
use Rattle.member_view.specs.Crowds.{StandsWell, IsAmong}
use Rattle.member_view.proofs.Crowds.{among-has, has-among}
use Rattle.std.proofs.lemmas.Bool.Decides.{eqb_tells}
use Rattle.group_model.specs.Marks.{HasNumber, marked, IsPlace, IsCrowd}
use Rattle.group_model.specs.Validity.{MayAck, MayAddAck}
use Rattle.group_model.proofs.ListFacts.{In-cases, test, yes_is, no_is}
use Rattle.group_model.proofs.Pasts.{same-message, past-within}
use Rattle.group_model.proofs.PastsInside.{view-of_inner}
use Rattle.group_model.proofs.Numbers.{number-in, number-same}
use Rattle.group_model.proofs.Places.{place-in, in-place}
use Rattle.group_model.proofs.RemoveWins.{ids_named-distinct, ids_named-Named, Named-ids_named}
use Rattle.member_view.specs.Rules.{SuitsAck, SuitsAddAck}
use Rattle.member_view.proofs.Oldest.{marked-number, number-marked, marked-within}

-- ---- distinct ids of a list are not more than the list has

pub record Taken (x : Id) (ys : List Id) : Type 0 where
  pub rest : List Id
  pub one_less : length ys ≡ length rest + 1
  pub others : (y : Id) → In y ys → (y ≡ x) ⊎ In y rest

taken : (x : Id) (ys : List Id) → In x ys → Taken x ys
taken x [] i = elim i [ ]
taken x (y ∷ ys) i = elim (In-cases i) [
  | inl e ↦ record {
    rest = ys;
    one_less = omega arith;
    others = λ z k. elim (In-cases k) [ inl d ↦ inl (d ∙ sym e) | inr j ↦ inr j ];
  }
  | inr j ↦ let t = taken x ys j in record {
    rest = y ∷ t.rest;
    one_less = let l = t.one_less in omega arith;
    others = λ z k. elim (In-cases k) [
      | inl d ↦ inr (subst (λ w. In w (y ∷ t.rest)) (sym d) here)
      | inr q ↦ elim (t.others z q) [ inl d ↦ inl d | inr p ↦ inr (there p) ]
    ];
  }
]

pub distinct-length : (xs ys : List Id) → IsDistinct xs → ((x : Id) → In x xs → In x ys) → length xs ≤ length ys
distinct-length [] ys d w = omega arith
distinct-length (x ∷ xs) ys d w =
    let t = taken x ys (w x here) in
    let l = distinct-length xs t.rest d.1 (λ y k. elim (t.others y (w y (there k))) [
      | inl e ↦ absurd (d.0 (subst (λ z. In z xs) e k))
      | inr q ↦ q
    ]) in
    let e = t.one_less in omega arith

-- ---- how many ids a part of the history names

named-in : (h p : History) → ((m : Message) → In m p → In m h) → (x : Id) → In x (ids_named p) → In x (ids_named h)
named-in h p w x i = let n = ids_named-Named p x i in
    Named-ids_named h x (record { by = n.by; there_is = w n.by n.there_is; names = n.names })

-- 32 places are in the crowd of the named: the part names 32 ids
pub full-named : (h p : History) (bits : ℕ → Bool) → length (ids_named h) ≤ 32 → IsCrowd (ids_named h) bits (λ x. Named p x)
    → ((q : ℕ) → q < 32 → bits q ≡ true) → length (ids_named p) < 32 → ⊥
full-named h p bits few v all l =
    let long : 31 < length (ids_named h) = v.within 31 (all 31 (omega arith)) in
    let k : length (ids_named h) ≤ length (ids_named p) = distinct-length (ids_named h) (ids_named p) (ids_named-distinct h)
    (λ x i. let q = in-place (ids_named h) x i in
    Named-ids_named p x ((v.each q.0 x q.1).0 (all q.0 (let b = slice_get_within (ids_named h) q.0 x q.1 in omega arith)))) in
    omega arith

-- a place is not in it: fewer
pub open-named : (h p : History) (bits : ℕ → Bool) (q : ℕ) → ((m : Message) → In m p → In m h) → length (ids_named h) ≤ 32
    → IsCrowd (ids_named h) bits (λ x. Named p x) → q < 32 → bits q ≡ false → length (ids_named p) < 32
open-named h p bits q w few v l f = elim (below q (length (ids_named h))) [
  | inl b ↦
      let x : Id = get_or (ids_named h) q [] in
      let e : IsPlace (ids_named h) q x = slice_get-get_or (ids_named h) q [] b in
      let miss : In x (ids_named p) → ⊥ = λ i. let t = (v.each q x e).1 (ids_named-Named p x i) in cc in
      let k : length (x ∷ ids_named p) ≤ length (ids_named h) = distinct-length (x ∷ ids_named p) (ids_named h) (miss, ids_named-distinct p)
      (λ y i. elim (In-cases i) [
        | inl d ↦ subst (λ z. In z (ids_named h)) (sym d) (place-in (ids_named h) q x e)
        | inr j ↦ named-in h p w y j
      ]) in
      omega arith
  | inr b ↦
      let k : length (ids_named p) ≤ length (ids_named h) = distinct-length (ids_named p) (ids_named h) (ids_named-distinct p) (named-in h p w) in
      omega arith
]
  where
    below : (q n : ℕ) → (q < n) ⊎ (n ≤ q)
    below q n = grind arith

-- ---- who sees a message

pub both-ways : {A B C : Type 0} → A ↔ B → B ↔ C → A ↔ C
both-ways f g = (λ a. g.0 (f.0 a), λ c. f.1 (g.1 c))

-- who sees a message is named by it or by the history
pub view-named : (rule : History → List Id) → IsMembershipRule rule → (h : History) (m : Message) (x : Id) → InView rule h m x → In x (ids_named (m ∷ h))
view-named rule g h m x v = let n = g.named (with_past h m) x v in
    Named-ids_named (m ∷ h) x (record {
      by = n.by;
      there_is = elim (In-cases n.there_is) [
        | inl e ↦ subst (λ z. In z (m ∷ h)) (sym e) here
        | inr j ↦ there (past-within h m.predecessors j)
      ];
      names = n.names;
    })

pub stands-well : (h : History) (m : Message) → In m h → (k : Kind) → StandsWell h m k
stands-well h m i (Create members) = inr i
stands-well h m i Update = tt
stands-well h m i (Remove y) = tt
stands-well h m i (Add y) = tt
stands-well h m i (Ack o took) = tt
stands-well h m i (AddAck o) = tt
stands-well h m i Text = tt

pub recipient-then : (V : Type 0) (a s : Id) (b same : Bool) → IsTrue b ↔ V → IsTrue same ↔ (a ≡ s) → same ≡ false
    → IsTrue b ↔ (V × (s ≢ a))
recipient-then V a s b same f g e = (
  λ t. (f.0 t, λ d. let y = g.1 (sym d) in cc),
  λ k. f.1 k.0,
)

pub recipient-else : (V : Type 0) (a s : Id) (b same : Bool) → IsTrue same ↔ (a ≡ s) → same ≡ true → b ≡ false
    → IsTrue b ↔ (V × (s ≢ a))
recipient-else V a s b same g e d = (
  λ t. absurd (let y : b ≡ true = t in cc),
  λ k. absurd (k.1 (sym (g.0 e))),
)

-- what suits an ack in the whole history suits it in the past that holds the operation
pub suits-inner : (rule : History → List Id) (h : History) → IsHistory h → (p : History) (ids : List Id) → p ≡ past h ids → (s : Id) (took : Bool)
    (o : Message) → In o p → SuitsAck rule h s took o ↔ SuitsAck rule p s took o
suits-inner rule h g p ids e s took o i = (
  λ k. elim k [
    | inl q ↦ inl (q.0, λ t. let r = q.1 t in (subst (λ z. InView rule z o s) (sym e) ((view-of_inner rule h ids o s g j).1 r.0), r.1))
    | inr q ↦ inr q
  ],
  λ k. elim k [
    | inl q ↦ inl (q.0, λ t. let r = q.1 t in ((view-of_inner rule h ids o s g j).0 (subst (λ z. InView rule z o s) e r.0), r.1))
    | inr q ↦ inr q
  ],
)
  where
    j : In o (past h ids)
    j = subst (λ z. In o z) e i

-- ---- what an ack or add-ack answers

unmarked : (h : History) → IsHistory h → (marks : ℕ → Bool) (i : Id) (at : ℕ) (a : Message)
    → HasNumber h at a → a.id ≡ i → marks at ≡ false → (o : Message) → In o (marked marks h) → o.id ≡ i → ⊥
unmarked h g marks i at a r e f o j d =
    let n = marked-number h marks j in
    let q : o ≡ a = same-message h g (marked-within h marks j) (number-in h at a r) (d ∙ sym e) in
    let p : n.number ≡ at = number-same h g n.number at a (subst (λ z. HasNumber h n.number z) q n.is_row) r in
    let t : marks at ≡ true = subst (λ z. marks z ≡ true) p n.marked in cc

pub ack-missing : (rule : History → List Id) (h : History) (marks : ℕ → Bool) (s i : Id) (took : Bool) → (Stands h i → ⊥)
    → MayAck rule (marked marks h) s i took
ack-missing rule h marks s i took miss o j e = absurd (miss (record { by = o; there_is = marked-within h marks j; has_id = e }))

pub ack-unmarked : (rule : History → List Id) (h : History) → IsHistory h → (marks : ℕ → Bool) (s i : Id) (took : Bool) (at : ℕ) (a : Message)
    → HasNumber h at a → a.id ≡ i → marks at ≡ false → MayAck rule (marked marks h) s i took
ack-unmarked rule h g marks s i took at a r e f o j d = absurd (unmarked h g marks i at a r e f o j d)

pub ack-row : (rule : History → List Id) (h : History) → IsHistory h → (marks : ℕ → Bool) (s i : Id) (took : Bool) (at : ℕ) (a : Message)
    → HasNumber h at a → a.id ≡ i → marks at ≡ true
    → SuitsAck rule (marked marks h) s took a ↔ MayAck rule (marked marks h) s i took
ack-row rule h g marks s i took at a r e t = (
  λ k o j d. subst (λ z. SuitsAck rule (marked marks h) s took z)
      (same-message h g (number-in h at a r) (marked-within h marks j) (e ∙ sym d)) k,
  λ may. may a (number-marked h marks at a r t) e,
)

pub add_ack-missing : (h : History) (marks : ℕ → Bool) (s i : Id) → (Stands h i → ⊥) → MayAddAck (marked marks h) s i
add_ack-missing h marks s i miss o j e = absurd (miss (record { by = o; there_is = marked-within h marks j; has_id = e }))

pub add_ack-unmarked : (h : History) → IsHistory h → (marks : ℕ → Bool) (s i : Id) (at : ℕ) (a : Message)
    → HasNumber h at a → a.id ≡ i → marks at ≡ false → MayAddAck (marked marks h) s i
add_ack-unmarked h g marks s i at a r e f o j d = absurd (unmarked h g marks i at a r e f o j d)

pub add_ack-row : (h : History) → IsHistory h → (marks : ℕ → Bool) (s i : Id) (at : ℕ) (a : Message)
    → HasNumber h at a → a.id ≡ i → marks at ≡ true → SuitsAddAck s a ↔ MayAddAck (marked marks h) s i
add_ack-row h g marks s i at a r e t = (
  λ k o j d. subst (λ z. SuitsAddAck s z) (same-message h g (number-in h at a r) (marked-within h marks j) (e ∙ sym d)) k,
  λ may. may a (number-marked h marks at a r t) e,
)

-- ---- members and names by crowds

-- who is in a crowd of the named, and of the members
pub among-named : (h p : History) (bits : ℕ → Bool) (x : Id) (b : Bool) → ((m : Message) → In m p → In m h)
    → IsCrowd (ids_named h) bits (λ x. Named p x) → IsTrue b ↔ IsAmong (ids_named h) bits x → IsTrue b ↔ Named p x
among-named h p bits x b w v f = (
  λ t. among-has (ids_named h) bits (λ z. Named p z) x v (f.0 t),
  λ n. let i = in-place (ids_named h) x (Named-ids_named h x (record { by = n.by; there_is = w n.by n.there_is; names = n.names })) in
      f.1 (has-among (ids_named h) bits (λ z. Named p z) x i.0 i.1 v n),
)

pub among-member : (rule : History → List Id) → IsMembershipRule rule → (h p : History) (bits : ℕ → Bool) (x : Id) (b : Bool)
    → ((m : Message) → In m p → In m h) → IsCrowd (ids_named h) bits (λ x. In x (rule p)) → IsTrue b ↔ IsAmong (ids_named h) bits x
    → IsTrue b ↔ In x (rule p)
among-member rule g h p bits x b w v f = (
  λ t. among-has (ids_named h) bits (λ z. In z (rule p)) x v (f.0 t),
  λ k. let n = g.named p x k in
      let i = in-place (ids_named h) x (Named-ids_named h x (record { by = n.by; there_is = w n.by n.there_is; names = n.names })) in
      f.1 (has-among (ids_named h) bits (λ z. In z (rule p)) x i.0 i.1 v k),
)

all-or-open : (bits : ℕ → Bool) (n : ℕ) → ((q : ℕ) → q < n → bits q ≡ true) ⊎ ((q : ℕ) × (q < n) × (bits q ≡ false))
all-or-open bits zero = inl (λ q l. absurd (omega arith))
all-or-open bits (suc n) = elim (all-or-open bits n) [
  | inr k ↦ inr (k.0, (let l = k.1 in omega arith), k.2)
  | inl k ↦ elim (test (bits n)) [
    | no_is f ↦ inr (n, omega arith, f)
    | yes_is t ↦ inl (λ q l. elim (eqb_tells q n) [ inl e ↦ rw (e.1) t | inr e ↦ k q (let d = e.1 in omega arith) ])
  ]
]

-- the crowd of the named lacks one of 32 places exactly where fewer are named
pub free-place : (h p : History) (bits : ℕ → Bool) (b : Bool) → ((m : Message) → In m p → In m h) → length (ids_named h) ≤ 32
    → IsCrowd (ids_named h) bits (λ x. Named p x) → IsTrue b ↔ ((q : ℕ) → q < 32 → bits q ≡ true) → IsTrue (not b) ↔ (length (ids_named p) < 32)
free-place h p bits true w few v f = (
  λ t. absurd (let e : false ≡ true = t in cc),
  λ l. absurd (full-named h p bits few v (f.0 refl) l),
)
free-place h p bits false w few v f = (
  λ t. elim (all-or-open bits 32) [
    | inl all ↦ absurd (let e : false ≡ true = f.1 all in cc)
    | inr o ↦ open-named h p bits o.0 w few v o.1 o.2
  ],
  λ l. refl,
)
