use Rattle.std.proofs.Common.{◌⊎◌, inl, inr, ◌≡◌, true, false, List, [], ◌∷◌, ◌++◌, refl, sym, ◌∙◌, subst, ap}
use Rattle.group_model.specs.Sets.{Id, In, here, there, has}
use Rattle.group_model.specs.Messages.{Message, History, past, with_past, Stands, IsHistory, AreHeads}
use Rattle.group_model.proofs.ListFacts.{yes_is, no_is, test, has-In, In-has, In-left, In-right, In-either, In-nothing, In-cases, In-head}

-- the head of a past is taken exactly where it is wanted
pub past-taken : (m : Message) (older : History) (w : List Id) → has w m.id ≡ true → past (m ∷ older) w ≡ m ∷ past older (m.predecessors ++ w)
unfolding past
past-taken m older w e = rw e refl

pub past-left : (m : Message) (older : History) (w : List Id) → has w m.id ≡ false → past (m ∷ older) w ≡ past older w
unfolding past
past-left m older w e = rw e refl

pub past-none : (w : List Id) → past [] w ≡ []
unfolding past
past-none w = refl

-- how a message comes to stand in the past over one more message
pub data Came (m : Message) (older : History) (w : List Id) (a : Message) : Type 0 where
  as_head : has w m.id ≡ true → a ≡ m → Came m older w a
  through : has w m.id ≡ true → In a (past older (m.predecessors ++ w)) → Came m older w a
  beside : has w m.id ≡ false → In a (past older w) → Came m older w a

pub came : (m : Message) (older : History) (w : List Id) {a : Message} → In a (past (m ∷ older) w) → Came m older w a
came m older w i = elim (test (has w m.id)) [
  | yes_is e ↦ elim (In-cases (rw (past-taken m older w e) at i)) [ inl p ↦ as_head e p | inr q ↦ through e q ]
  | no_is e ↦ beside e (rw (past-left m older w e) at i)
]

-- a past is part of the history
pub past-within : (h : History) (w : List Id) {a : Message} → In a (past h w) → In a h
past-within [] w i = rw past-none at i
past-within (m ∷ older) w i = elim (came m older w i) [
  | as_head e p ↦ In-head older p
  | through e j ↦ there (past-within older _ j)
  | beside e j ↦ there (past-within older w j)
]

pub past-head : (m : Message) (older : History) (w : List Id) → In m.id w → In m (past (m ∷ older) w)
past-head m older w k = rw (past-taken m older w (In-has w m.id k)) here

-- more is led back to from more ids
pub past-more : (h : History) (w v : List Id) → ((i : Id) → In i w → In i v) → {a : Message} → In a (past h w) → In a (past h v)
past-more [] w v f i = absurd (In-nothing (rw past-none at i))
past-more (m ∷ older) w v f {a} i = elim (came m older w i) [
  | as_head e p ↦ subst (λ z. In z (past (m ∷ older) v)) (sym p) (past-head m older v (f m.id (has-In w m.id e)))
  | through e j ↦ rw (past-taken m older v (In-has v m.id (f m.id (has-In w m.id e))))
      (there (past-more older (m.predecessors ++ w) (m.predecessors ++ v)
      (λ k d. elim (In-either m.predecessors d) [ inl p ↦ In-left v p | inr q ↦ In-right m.predecessors (f k q) ]) j))
  | beside e j ↦ elim (test (has v m.id)) [
    | yes_is d ↦ rw (past-taken m older v d) (there (past-more older w (m.predecessors ++ v) (λ k q. In-right m.predecessors (f k q)) j))
    | no_is d ↦ rw (past-left m older v d) (past-more older w v f j)
  ]
]

-- what is wanted and stands is taken
pub past-direct : (h : History) (w : List Id) {a : Message} → In a h → In a.id w → In a (past h w)
past-direct [] w i k = elim i [ ]
past-direct (m ∷ older) w here k = past-head m older w k
past-direct (m ∷ older) w (there i) k = elim (test (has w m.id)) [
  | yes_is e ↦ rw (past-taken m older w e) (there (past-direct older (m.predecessors ++ w) i (In-right m.predecessors k)))
  | no_is e ↦ rw (past-left m older w e) (past-direct older w i k)
]

-- the past is the least set that holds the predecessors and theirs
pub past-least : (h : History) (w : List Id) (Q : Message → Type 0) → ((a : Message) → In a h → In a.id w → Q a)
    → ((a b : Message) → In a h → In b h → Q a → In b.id a.predecessors → Q b) → {a : Message} → In a (past h w) → Q a
past-least [] w Q first next i = absurd (In-nothing (rw past-none at i))
past-least (m ∷ older) w Q first next {a} i = elim (came m older w i) [
  | as_head e p ↦ subst Q (sym p) (first m here (has-In w m.id e))
  | through e j ↦ past-least older (m.predecessors ++ w) Q
      (λ b k d. elim (In-either m.predecessors d) [
        | inl p ↦ next m b here (there k) (first m here (has-In w m.id e)) p
        | inr q ↦ first b (there k) q
      ])
      (λ b c k l q d. next b c (there k) (there l) q d) j
  | beside e j ↦ past-least older w Q (λ b k d. first b (there k) d) (λ b c k l q d. next b c (there k) (there l) q d) j
]

-- a message that stands has an id that stands
pub stands : {h : History} {a : Message} → In a h → Stands h a.id
stands {h} {a} i = record { by = a; there_is = i; has_id = refl }

pub Stands-there : {m : Message} {older : History} {i : Id} → Stands older i → Stands (m ∷ older) i
Stands-there s = record { by = s.by; there_is = there s.there_is; has_id = s.has_id }

-- the predecessors of a message of the history stand in it
pub deps-stand : (h : History) → IsHistory h → {a : Message} → In a h → (i : Id) → In i a.predecessors → Stands h i
deps-stand [] g x i k = elim x [ ]
deps-stand (m ∷ older) g here i k = Stands-there (g.0 i k)
deps-stand (m ∷ older) g (there x) i k = Stands-there (deps-stand older g.2 x i k)

-- one message for an id
pub same-message : (h : History) → IsHistory h → {a b : Message} → In a h → In b h → a.id ≡ b.id → a ≡ b
same-message [] g x y e = elim x [ ]
same-message (m ∷ older) g here here e = refl
same-message (m ∷ older) g here (there y) e = absurd (g.1 (record { by = _; there_is = y; has_id = sym e }))
same-message (m ∷ older) g (there x) here e = absurd (g.1 (record { by = _; there_is = x; has_id = e }))
same-message (m ∷ older) g (there x) (there y) e = same-message older g.2 x y e

-- the past is closed
pub past-closed : (h : History) → IsHistory h → (w : List Id) → {a b : Message} → In a (past h w) → In b h → In b.id a.predecessors → In b (past h w)
past-closed [] g w i j d = elim j [ ]
past-closed (m ∷ older) g w {a} {b} i j d = elim (came m older w i) [
  | as_head e p ↦ elim (In-cases j) [
    | inl q ↦ absurd (g.1 (rw q at (g.0 b.id (subst (λ z. In b.id z.predecessors) p d))))
    | inr q ↦ rw (past-taken m older w e) (there (past-direct older (m.predecessors ++ w) q (In-left w (subst (λ z. In b.id z.predecessors) p d))))
  ]
  | through e x ↦ elim (In-cases j) [
    | inl q ↦ absurd (g.1 (rw q at (deps-stand older g.2 (past-within older (m.predecessors ++ w) x) b.id d)))
    | inr q ↦ rw (past-taken m older w e) (there (past-closed older g.2 (m.predecessors ++ w) x q d))
  ]
  | beside e x ↦ elim (In-cases j) [
    | inl q ↦ absurd (g.1 (rw q at (deps-stand older g.2 (past-within older w x) b.id d)))
    | inr q ↦ rw (past-left m older w e) (past-closed older g.2 w x q d)
  ]
]

-- transitive
pub past-trans : (h : History) → IsHistory h → (w : List Id) → {a b : Message} → In a (past h w) → In b (past h a.predecessors) → In b (past h w)
past-trans h g w {a} {b} i j =
    past-least h a.predecessors (λ c. In c (past h w)) (λ c x d. past-closed h g w i x d) (λ c d x y q e. past-closed h g w q y e) j

-- two histories that give an id the same message
pub record Agree (h k : History) : Type 0 where
  pub same : (a b : Message) → In a h → In b k → a.id ≡ b.id → a ≡ b

-- the past depends on the message alone: in each history that has its predecessors it is the same set
pub past-apart : (h k : History) → IsHistory h → IsHistory k → Agree h k → (w : List Id) → ((i : Id) → In i w → Stands k i)
    → {a : Message} → In a (past h w) → In a (past k w)
past-apart h k g f agree w there_too i = past-least h w (λ c. In c (past k w))
    (λ a x d. let s = there_too a.id d in let e : a ≡ s.by = agree.same a s.by x s.there_is (sym s.has_id) in
    subst (λ z. In z (past k w)) (sym e) (past-direct k w s.there_is (rw (s.has_id) d)))
    (λ a b x y q d. let s = deps-stand k f (past-within k w q) b.id d in let e : b ≡ s.by = agree.same b s.by y s.there_is (sym s.has_id) in
    subst (λ z. In z (past k w)) (sym e) (past-closed k f w q s.there_is (rw (s.has_id) d)))
    i

-- a past within a past is one of the history
pub past-inside : (h : History) → IsHistory h → (w v : List Id) → {a : Message} → In a (past (past h w) v) → In a (past h v)
past-inside h g w v i = past-least (past h w) v (λ c. In c (past h v))
    (λ a x d. past-direct h v (past-within h w x) d)
    (λ a b x y q d. past-closed h g v q (past-within h w y) d) i

pub past-of_nothing : (h : History) {a : Message} → In a (past h []) → ⊥
past-of_nothing h i = past-least h [] (λ c. ⊥) (λ a x d. In-nothing d) (λ a b x y q d. q) i

-- a past is a history
pub past-history : (h : History) → IsHistory h → (w : List Id) → IsHistory (past h w)
past-history [] g w = rw past-none tt
past-history (m ∷ older) g w = elim (test (has w m.id)) [
  | yes_is e ↦ rw (past-taken m older w e) (
    (λ i k. let s = g.0 i k in record { by = s.by; there_is = past-direct older (m.predecessors ++ w) s.there_is (In-left w (rw (s.has_id) k)); has_id = s.has_id }),
    (λ s. g.1 (record { by = s.by; there_is = past-within older (m.predecessors ++ w) s.there_is; has_id = s.has_id })),
    past-history older g.2 (m.predecessors ++ w),
  )
  | no_is e ↦ rw (past-left m older w e) (past-history older g.2 w)
]

-- the ids cover the messages that no message names
pub record Covers (h : History) (w : List Id) : Type 0 where
  pub covers : (a : Message) → In a h → ((b : Message) → In b h → In a.id b.predecessors → ⊥) → In a.id w

id_or_not : (xs : List Id) (x : Id) → In x xs ⊎ (In x xs → ⊥)
id_or_not xs x = elim (test (has xs x)) [ yes_is e ↦ inl (has-In xs x e) | no_is e ↦ inr (λ q. let d = In-has xs x q in cc) ]

-- the heads lead back to the whole history
pub heads-all : (h : History) → IsHistory h → (w : List Id) → Covers h w → {a : Message} → In a h → In a (past h w)
heads-all [] g w k i = elim i [ ]
heads-all (m ∷ older) g w k {a} i =
    let top : In m.id w = k.covers m here (λ b j d. elim (In-cases j) [
      | inl e ↦ g.1 (g.0 m.id (subst (λ (z : Message). In m.id z.predecessors) e d))
      | inr q ↦ g.1 (deps-stand older g.2 q m.id d)
    ]) in
    rw (past-taken m older w (In-has w m.id top)) (elim (In-cases i) [
      | inl e ↦ In-head (past older (m.predecessors ++ w)) e
      | inr j ↦ there (heads-all older g.2 (m.predecessors ++ w) (record {
        covers = λ b n f. elim (id_or_not m.predecessors b.id) [
          | inl q ↦ In-left w q
          | inr o ↦ In-right m.predecessors (k.covers b (there n) (λ d l q. elim (In-cases l) [ inl e ↦ o (subst (λ (z : Message). In b.id z.predecessors) e q) | inr r ↦ f d r q ]))
        ];
      }) j)
    ])

-- a past is the same over itself
pub past-twice : (h : History) → IsHistory h → (w : List Id) → {a : Message} → In a (past h w) → In a (past (past h w) w)
past-twice h g w i = past-least h w (λ c. In c (past (past h w) w))
    (λ a x d. past-direct (past h w) w (past-direct h w x d) d)
    (λ a b x y q d. past-closed (past h w) (past-history h g w) w q
    (past-closed h g w (past-within (past h w) w q) y d) d) i

-- a message with its past is a history
pub with_past-history : (h : History) → IsHistory h → {m : Message} → In m h → IsHistory (with_past h m)
with_past-history h g {m} j = (
  (λ i k. let s = deps-stand h g j i k in
      record {
        by = s.by;
        has_id = s.has_id;
        there_is = past-direct h m.predecessors s.there_is (rw (s.has_id) k);
      }),
  (λ s. not_own h g j s.there_is s.has_id),
  past-history h g m.predecessors,
)
  where
    not_own : (h : History) → IsHistory h → {m a : Message} → In m h → In a (past h m.predecessors) → a.id ≡ m.id → ⊥
    not_own [] g j i e = elim j [ ]
    not_own (l ∷ older) g {m} {a} here i e = elim (came l older l.predecessors i) [
      | as_head t p ↦ g.1 (g.0 l.id (has-In l.predecessors l.id t))
      | through t q ↦ g.1 (g.0 l.id (has-In l.predecessors l.id t))
      | beside t q ↦ g.1 (record { by = a; there_is = past-within older l.predecessors q; has_id = e })
    ]
    not_own (l ∷ older) g {m} {a} (there j) i e = elim (came l older m.predecessors i) [
      | as_head t p ↦ g.1 (deps-stand older g.2 j l.id (has-In m.predecessors l.id t))
      | through t q ↦ g.1 (deps-stand older g.2 j l.id (has-In m.predecessors l.id t))
      | beside t q ↦ not_own older g.2 j q e
    ]

-- the ids of the heads cover what no message names
pub heads-cover : (h : History) (w : List Id) → AreHeads h w → Covers h w
heads-cover h w k = record {
  covers = λ a i f. k.all a (record {
    there_is = i;
    last = λ b j x. past-least h b.predecessors (λ c. c ≡ a → ⊥)
        (λ c z d e. f b j (subst (λ (y : Message). In y.id b.predecessors) e d))
        (λ c d y z q n e. f c y (subst (λ (y : Message). In y.id c.predecessors) e n)) x refl;
  });
}

-- and lead back to the whole history
pub heads-lead_back : (h : History) → IsHistory h → (w : List Id) → AreHeads h w → {a : Message} → In a h → In a (past h w)
heads-lead_back h g w k i = heads-all h g w (heads-cover h w k) i

-- nothing leads back to nothing
pub past-of_none : (h : History) → past h [] ≡ []
past-of_none [] = past-none []
past-of_none (m ∷ older) = past-left m older [] refl ∙ past-of_none older

-- a past that has the whole history is the history
pub past-all : (h : History) → IsHistory h → (w : List Id) → ((a : Message) → In a h → In a (past h w)) → past h w ≡ h
past-all [] g w f = past-none w
past-all (m ∷ older) g w f = elim (test (has w m.id)) [
  | no_is e ↦ absurd (g.1 (record {
    by = m;
    has_id = refl;
    there_is = past-within older w (subst (λ z. In m z) (past-left m older w e) (f m here));
  }))
  | yes_is e ↦ past-taken m older w e ∙ ap (λ z. m ∷ z) (past-all older g.2 (m.predecessors ++ w) (λ a i.
      elim (In-cases (subst (λ z. In a z) (past-taken m older w e) (f a (there i)))) [
        | inl d ↦ absurd (g.1 (record { by = a; there_is = i; has_id = ap (λ (z : Message). z.id) d }))
        | inr j ↦ j
      ]))
]
