-- Messages of a history by their numbers: marks that grow, and the sweep that marks a past.
use Rattle.std.proofs.Common.{◌≡◌, ◌≢◌, ℕ, zero, suc, ◌+◌, ◌<◌, ◌≤◌, Bool, true, false, ◌⊎◌, inl, inr, List, [], ◌∷◌, length, refl, sym, ◌∙◌, ap, subst, arith, take, get_or}
use Rattle.std.proofs.lemmas.Bool.Decides.{eqb_tells}
use Rattle.std.proofs.lemmas.List.{take_more}
use Rattle.group_model.specs.Sets.{Id, In, here, there, IsBelow, IsAscending}
use Rattle.group_model.specs.Messages.{Message, History, past, Stands, IsHistory}
use Rattle.group_model.specs.Marks.{HasNumber, marked, MarksPast}
use Rattle.group_model.proofs.ListFacts.{yes_is, no_is, test, In-cases, In-head, In-left, In-right}
use Rattle.group_model.proofs.Rows.{id-in, id-more}
use Rattle.group_model.proofs.Ascending.{ascending-rest, ascending-above}
use Rattle.group_model.proofs.Numbers.{number-in, number-below, number-one, number-of, number-same}
use Rattle.group_model.proofs.Pasts.{past-closed, past-direct, past-least, past-history, deps-stand, same-message}
use Rattle.causal_history.specs.Numbered.{IsNumberOf, IsLeastMissing, MarksMore}

-- ---- numbers

-- each number below the length is a message's
pub number-at : (h : History) (i : ℕ) → i < length h → (m : Message) × HasNumber h i m
number-at [] i l = absurd (omega arith)
number-at (n ∷ older) i l = elim (eqb_tells i (length older)) [
  | inl e ↦ (n, inl (e.1, refl))
  | inr e ↦ let r = number-at older i (omega (arith, e.1)) in (r.0, inr r.1)
]

-- a predecessor is older
pub number-older : (h : History) → IsHistory h → (i j : ℕ) (m n : Message) → HasNumber h i m → HasNumber h j n
    → In n.id m.predecessors → j < i
number-older [] g i j m n r s d = absurd r
number-older (l ∷ older) g i j m n (inl e) (inl f) d =
    absurd (g.1 (g.0 l.id (subst (λ (z : Message). In l.id z.predecessors) e.1
    (subst (λ (z : Message). In z.id m.predecessors) f.1 d))))
number-older (l ∷ older) g i j m n (inl e) (inr s) d = let k = number-below older j n s in omega arith
number-older (l ∷ older) g i j m n (inr r) (inl f) d =
    absurd (g.1 (deps-stand older g.2 (number-in older i m r) l.id (subst (λ (z : Message). In z.id m.predecessors) f.1 d)))
number-older (l ∷ older) g i j m n (inr r) (inr s) d = number-older older g.2 i j m n r s d

pub number-stands : (h : History) (id : Id) (i : ℕ) → IsNumberOf h id i → Stands h id
number-stands h id i n = record { by = n.by; there_is = number-in h i n.by n.number; has_id = n.has_id }

-- a message that has the id has its number
pub number-of_id : (h : History) → IsHistory h → (id : Id) (at i : ℕ) (m : Message) → IsNumberOf h id at → HasNumber h i m
    → m.id ≡ id → i ≡ at
number-of_id h g id at i m n r e =
    let a : m ≡ n.by = same-message h g (number-in h i m r) (number-in h at n.by n.number) (e ∙ sym n.has_id) in
    number-same h g i at n.by (subst (λ z. HasNumber h i z) a r) n.number

-- ---- marked messages

pub number-marked : (h : History) (marks : ℕ → Bool) (i : ℕ) (m : Message) → HasNumber h i m → marks i ≡ true
    → In m (marked marks h)
number-marked [] marks i m r t = absurd r
number-marked (n ∷ older) marks i m (inl e) t =
    let top : marks (length older) ≡ true = subst (λ z. marks z ≡ true) e.0 t in
    rw top (In-head (marked marks older) e.1)
number-marked (n ∷ older) marks i m (inr r) t = elim (test (marks (length older))) [
  | yes_is e ↦ rw e (there (number-marked older marks i m r t))
  | no_is e ↦ rw e (number-marked older marks i m r t)
]

-- a marked message with its number
pub record IsMarked (h : History) (marks : ℕ → Bool) (m : Message) : Type 0 where
  pub at : ℕ
  pub number : HasNumber h at m
  pub is : marks at ≡ true

pub marked-number : (h : History) (marks : ℕ → Bool) {m : Message} → In m (marked marks h) → IsMarked h marks m
marked-number [] marks i = elim i [ ]
marked-number (n ∷ older) marks {m} i = elim (test (marks (length older))) [
  | yes_is e ↦ elim (In-cases (rw e at i)) [
    | inl d ↦ record { at = length older; number = inl (refl, d); is = e }
    | inr j ↦ wider (marked-number older marks j)
  ]
  | no_is e ↦ wider (marked-number older marks (rw e at i))
]
  where
    wider : IsMarked older marks m → IsMarked (n ∷ older) marks m
    wider k = record { at = k.at; number = inr k.number; is = k.is }

-- where all are marked, the marked ones are the history
pub marked-all : (h : History) (marks : ℕ → Bool) → ((i : ℕ) → i < length h → marks i ≡ true) → marked marks h ≡ h
marked-all [] marks f = refl
marked-all (m ∷ older) marks f =
    let top : marks (length older) ≡ true = f (length older) (omega arith) in
    rw top (ap (λ z. m ∷ z) (marked-all older marks (λ i l. f i (omega arith))))

-- ---- marks that grow

-- a number is below the length or not
pub below_or_not : (i n : ℕ) → (i < n) ⊎ (n ≤ i)
below_or_not zero zero = inr (omega arith)
below_or_not zero (suc n) = inl (omega arith)
below_or_not (suc i) zero = inr (omega arith)
below_or_not (suc i) (suc n) = elim (below_or_not i n) [ inl l ↦ inl (omega arith) | inr l ↦ inr (omega arith) ]

pub more-old : (h : History) (ids : List Id) (marks wider : ℕ → Bool) → MarksMore h ids marks wider → (i : ℕ)
    → marks i ≡ true → wider i ≡ true
more-old h ids marks wider v i t = elim (below_or_not i (length h)) [
  | inl l ↦ let r = number-at h i l in (v.each i r.0 r.1).1 (inl t)
  | inr l ↦ v.others i l ∙ t
]

-- a message that is marked and was not
pub record IsNew (h : History) (ids : List Id) (i : ℕ) : Type 0 where
  pub by : Message
  pub number : HasNumber h i by
  pub among : In by.id ids

pub more-only : (h : History) (ids : List Id) (marks wider : ℕ → Bool) → MarksMore h ids marks wider → (i : ℕ)
    → wider i ≡ true → (marks i ≡ true) ⊎ IsNew h ids i
more-only h ids marks wider v i t = elim (below_or_not i (length h)) [
  | inl l ↦ let r = number-at h i l in elim ((v.each i r.0 r.1).0 t) [
    | inl e ↦ inl e
    | inr k ↦ inr (record { by = r.0; number = r.1; among = k })
  ]
  | inr l ↦ inl (sym (v.others i l) ∙ t)
]

pub more-start : (h : History) (marks : ℕ → Bool) → MarksMore h [] marks marks
more-start h marks = record { each = λ i m r. (λ t. inl t, λ q. elim q [ inl t ↦ t | inr k ↦ absurd (elim k [ ]) ]); others = λ i l. refl }

pub id-earlier : (ids : List Id) (n : ℕ) (d : Id) → n < length ids → {x : Id} → In x (take n ids) → In x (take (n + 1) ids)
id-earlier ids n d l {x} k = subst (λ z. In x z) (sym (take_more ids n d l)) (In-left (get_or ids n d ∷ []) k)

pub id-last : (ids : List Id) (n : ℕ) (d : Id) → n < length ids → In (get_or ids n d) (take (n + 1) ids)
id-last ids n d l = subst (λ z. In (get_or ids n d) z) (sym (take_more ids n d l)) (In-right (take n ids) here)

-- marks of the ids so far, where the next one has a number
pub more-put : (h : History) → IsHistory h → (ids : List Id) (n : ℕ) (d : Id) → n < length ids → (marks wide wider : ℕ → Bool) (at : ℕ)
    → IsNumberOf h (get_or ids n d) at → MarksMore h (take n ids) marks wide → wider at ≡ true
    → ((i : ℕ) → i ≢ at → wider i ≡ wide i) → MarksMore h (take (n + 1) ids) marks wider
more-put h g ids n d l marks wide wider at f v t same = record {
  each = λ i m r. (
    λ e. elim (eqb_tells i at) [
      | inl p ↦ inr (
          let a : m ≡ f.by = number-one h at m f.by (subst (λ z. HasNumber h z m) p.1 r) f.number in
          subst (λ z. In z (take (n + 1) ids)) (sym (ap (λ (z : Message). z.id) a ∙ f.has_id)) (id-last ids n d l))
      | inr p ↦ elim ((v.each i m r).0 (sym (same i p.1) ∙ e)) [ inl q ↦ inl q | inr k ↦ inr (id-earlier ids n d l k) ]
    ],
    λ q. elim (eqb_tells i at) [
      | inl p ↦ rw p.1 t
      | inr p ↦ same i p.1 ∙ (v.each i m r).1 (elim q [
        | inl e ↦ inl e
        | inr k ↦ elim (id-more ids n d l m.id k) [
          | inl e ↦ absurd (p.1 (number-of_id h g (get_or ids n d) at i m f r e))
          | inr j ↦ inr j
        ]
      ])
    ],
  );
  others = λ i k. let b = number-below h at f.by f.number in let p : i ≢ at = omega arith in same i p ∙ v.others i k;
}

-- where no message has the next one
pub more-none : (h : History) (ids : List Id) (n : ℕ) (d : Id) → n < length ids → (marks wide : ℕ → Bool)
    → (Stands h (get_or ids n d) → ⊥) → MarksMore h (take n ids) marks wide → MarksMore h (take (n + 1) ids) marks wide
more-none h ids n d l marks wide miss v = record {
  each = λ i m r. (
    λ e. elim ((v.each i m r).0 e) [ inl q ↦ inl q | inr k ↦ inr (id-earlier ids n d l k) ],
    λ q. (v.each i m r).1 (elim q [
      | inl e ↦ inl e
      | inr k ↦ elim (id-more ids n d l m.id k) [
        | inl e ↦ absurd (miss (record { by = m; there_is = number-in h i m r; has_id = e }))
        | inr j ↦ inr j
      ]
    ]),
  );
  others = v.others;
}

-- ---- the downward sweep

-- marks of a downward sweep that has come to a number
pub record Swept (h : History) (w : List Id) (marks : ℕ → Bool) (at : ℕ) : Type 0 where
  pub sound : (i : ℕ) (m : Message) → HasNumber h i m → marks i ≡ true → In m (past h w)
  pub within : (i : ℕ) → marks i ≡ true → i < length h
  pub first : (i : ℕ) (m : Message) → HasNumber h i m → In m.id w → marks i ≡ true
  pub closed : (i j : ℕ) (m n : Message) → at ≤ i → HasNumber h i m → HasNumber h j n → marks i ≡ true
      → In n.id m.predecessors → marks j ≡ true

pub swept-start : (h : History) (w : List Id) (none marks : ℕ → Bool) → ((i : ℕ) → none i ≡ false) → MarksMore h w none marks
    → Swept h w marks (length h)
swept-start h w none marks clear v = record {
  sound = λ i m r t. elim ((v.each i m r).0 t) [
    | inl d ↦ let c = clear i in absurd cc
    | inr k ↦ past-direct h w (number-in h i m r) k
  ];
  within = λ i t. elim (below_or_not i (length h)) [
    | inl l ↦ l
    | inr l ↦ let c = clear i in let o = v.others i l in absurd cc
  ];
  first = λ i m r k. (v.each i m r).1 (inr k);
  closed = λ i j m n l r s t d. let k = number-below h i m r in absurd (omega arith);
}

pub swept-skip : (h : History) (w : List Id) (marks : ℕ → Bool) (at : ℕ) → marks at ≡ false → Swept h w marks (at + 1) → Swept h w marks at
swept-skip h w marks at e v = record {
  sound = v.sound;
  within = v.within;
  first = v.first;
  closed = λ i j m n l r s t d. v.closed i j m n (above i l t) r s t d;
}
  where
    above : (i : ℕ) → at ≤ i → marks i ≡ true → at + 1 ≤ i
    above i l t = let q : i ≢ at = λ p. let b : marks at ≡ true = subst (λ z. marks z ≡ true) p t in cc in omega arith

pub swept-step : (h : History) → IsHistory h → (w : List Id) (marks wider : ℕ → Bool) (at : ℕ) (m : Message) → HasNumber h at m
    → marks at ≡ true → Swept h w marks (at + 1) → MarksMore h m.predecessors marks wider → Swept h w wider at
swept-step h g w marks wider at m r t v x = record {
  sound = λ i n s e. elim ((x.each i n s).0 e) [
    | inl d ↦ v.sound i n s d
    | inr k ↦ past-closed h g w (v.sound at m r t) (number-in h i n s) k
  ];
  within = λ i e. elim (more-only h m.predecessors marks wider x i e) [
    | inl d ↦ v.within i d
    | inr q ↦ number-below h i q.by q.number
  ];
  first = λ i n s d. more-old h m.predecessors marks wider x i (v.first i n s d);
  closed = step;
}
  where
    equal_or_above : (i : ℕ) → at ≤ i → (i ≡ at) ⊎ (at + 1 ≤ i)
    equal_or_above i l = elim (eqb_tells i at) [ inl e ↦ inl e.1 | inr e ↦ inr (omega (arith, e.1)) ]

    step : (i j : ℕ) (n l : Message) → at ≤ i → HasNumber h i n → HasNumber h j l → wider i ≡ true → In l.id n.predecessors
        → wider j ≡ true
    step i j n l b s u e d = elim (more-only h m.predecessors marks wider x i e) [
      | inl f ↦ elim (equal_or_above i b) [
        | inl p ↦ (x.each j l u).1 (inr (subst (λ (z : Message). In l.id z.predecessors)
            (number-one h at n m (subst (λ z. HasNumber h z n) p s) r) d))
        | inr a ↦ more-old h m.predecessors marks wider x j (v.closed i j n l a s u f d)
      ]
      | inr q ↦ let k = number-older h g at i m q.by r q.number q.among in absurd (omega arith)
    ]

pub swept-end : (h : History) → IsHistory h → (w : List Id) (marks : ℕ → Bool) → Swept h w marks 0 → MarksPast h w marks
swept-end h g w marks v = record {
  each = λ i m r. (
    v.sound i m r,
    λ j. past-least h w Q
        (λ a k d. λ n s. v.first n a s d)
        (λ a b k l q d. λ n s. let u = number-of h k in v.closed u.0 n a b (omega arith) u.1 s (q u.0 u.1) d)
        j i r,
  );
  within = v.within;
}
  where
    Q : Message → Type 0
    Q a = (n : ℕ) → HasNumber h n a → marks n ≡ true

-- ---- the least of missing ids

-- an id of ascending ids is among the first, or is the next, or above it
ascending-split : (ids : List Id) (n : ℕ) (d j : Id) → IsAscending ids → n < length ids → In j ids
    → In j (take n ids) ⊎ ((j ≡ get_or ids n d) ⊎ IsBelow (get_or ids n d) j)
ascending-split [] n d j g l k = absurd (omega arith)
ascending-split (i ∷ ids) zero d j g l k =
    elim (In-cases k) [ inl e ↦ inr (inl e) | inr q ↦ inr (inr (ascending-above i ids g j q)) ]
ascending-split (i ∷ ids) (suc n) d j g l k = elim (In-cases k) [
  | inl e ↦ inl (In-head (take n ids) e)
  | inr q ↦ elim (ascending-split ids n d j (ascending-rest i ids g) (omega arith) q) [ inl p ↦ inl (there p) | inr p ↦ inr p ]
]

pub least-first : (h : History) (ids : List Id) (n : ℕ) (d : Id) → IsAscending ids → n < length ids
    → ((i : Id) → In i (take n ids) → Stands h i) → (Stands h (get_or ids n d) → ⊥) → IsLeastMissing h ids (get_or ids n d)
least-first h ids n d g l before miss = record {
  among = id-in ids n d l;
  missing = miss;
  least = λ j k none. elim (ascending-split ids n d j g l k) [ inl p ↦ absurd (none (before j p)) | inr p ↦ p ];
}

-- ---- pasts are histories

pub marked-history : (h : History) → IsHistory h → (w : List Id) (marks : ℕ → Bool) → marked marks h ≡ past h w → IsHistory (marked marks h)
marked-history h g w marks e = subst IsHistory (sym e) (past-history h g w)
