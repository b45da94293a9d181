-- Messages of a history by their numbers, and a past as its marked messages.
use Rattle.std.proofs.Common.{◌≡◌, ◌≢◌, ℕ, ◌<◌, Bool, true, false, inl, inr, List, [], ◌∷◌, ◌++◌, nat_eq, length, refl, sym, ◌∙◌, ap, arith}
use Rattle.std.specs.Prelude.{reverse}
use Rattle.std.proofs.lemmas.List.{reverse-append}
use Rattle.group_model.specs.Sets.{Id, In, here, there, has}
use Rattle.group_model.specs.Messages.{Message, History, past, Stands, IsHistory}
use Rattle.group_model.specs.Marks.{HasNumber, marked, MarksPast}
use Rattle.group_model.proofs.ListFacts.{yes_is, no_is, test, has-In, In-cases, In-head}
use Rattle.group_model.proofs.Verdicts.{says-equal}
use Rattle.group_model.proofs.Pasts.{past-taken, past-left, past-none, past-within, past-direct}

pub number-in : (h : History) (i : ℕ) (m : Message) → HasNumber h i m → In m h
number-in [] i m r = absurd r
number-in (n ∷ older) i m (inl e) = In-head older e.1
number-in (n ∷ older) i m (inr r) = there (number-in older i m r)

pub number-below : (h : History) (i : ℕ) (m : Message) → HasNumber h i m → i < length h
number-below [] i m r = absurd r
number-below (n ∷ older) i m (inl e) = omega arith
number-below (n ∷ older) i m (inr r) = let l = number-below older i m r in omega arith

-- one message for a number
pub number-one : (h : History) (i : ℕ) (m n : Message) → HasNumber h i m → HasNumber h i n → m ≡ n
number-one [] i m n r s = absurd r
number-one (l ∷ older) i m n (inl e) (inl d) = e.1 ∙ sym d.1
number-one (l ∷ older) i m n (inl e) (inr s) = let k = number-below older i n s in absurd (omega arith)
number-one (l ∷ older) i m n (inr r) (inl d) = let k = number-below older i m r in absurd (omega arith)
number-one (l ∷ older) i m n (inr r) (inr s) = number-one older i m n r s

-- each message has a number
pub number-of : (h : History) {m : Message} → In m h → (i : ℕ) × HasNumber h i m
number-of [] i = elim i [ ]
number-of (n ∷ older) here = (length older, inl (refl, refl))
number-of (n ∷ older) (there i) = let r = number-of older i in (r.0, inr r.1)

-- one number for a message
pub number-same : (h : History) → IsHistory h → (i j : ℕ) (m : Message) → HasNumber h i m → HasNumber h j m → i ≡ j
number-same [] g i j m r s = absurd r
number-same (n ∷ older) g i j m (inl e) (inl f) = e.0 ∙ sym f.0
number-same (n ∷ older) g i j m (inl e) (inr s) =
    absurd (g.1 (record { by = m; there_is = number-in older j m s; has_id = ap (λ (z : Message). z.id) e.1 }))
number-same (n ∷ older) g i j m (inr r) (inl f) =
    absurd (g.1 (record { by = m; there_is = number-in older i m r; has_id = ap (λ (z : Message). z.id) f.1 }))
number-same (n ∷ older) g i j m (inr r) (inr s) = number-same older g.2 i j m r s

-- the past as its marked messages, for marks both ways
past-marked_both : (h : History) → IsHistory h → (w : List Id) (marks : ℕ → Bool)
    → ((i : ℕ) (m : Message) → HasNumber h i m → marks i ≡ true → In m (past h w))
    → ((i : ℕ) (m : Message) → HasNumber h i m → In m (past h w) → marks i ≡ true)
    → marked marks h ≡ past h w
past-marked_both [] g w marks f b = sym (past-none w)
past-marked_both (m ∷ older) g w marks f b = elim (test (has w m.id)) [
  | yes_is e ↦
      let top : marks (length older) ≡ true = b (length older) m (inl (refl, refl)) (past-direct (m ∷ older) w here (has-In w m.id e)) in
      let rest : marked marks older ≡ past older (m.predecessors ++ w) = past-marked_both older g.2 (m.predecessors ++ w) marks
      (λ i n r t. elim (In-cases (rw (past-taken m older w e) at (f i n (inr r) t))) [
        | inl d ↦ absurd (g.1 (stands-as older i n m r d))
        | inr q ↦ q
      ])
      (λ i n r q. b i n (inr r) (rw (past-taken m older w e) (there q))) in
      rw top (rw (past-taken m older w e) (ap (λ z. m ∷ z) rest))
  | no_is e ↦
      let none : marks (length older) ≡ false = elim (test (marks (length older))) [
        | yes_is t ↦ absurd (g.1 (record {
          by = m;
          there_is = past-within older w (rw (past-left m older w e) at (f (length older) m (inl (refl, refl)) t));
          has_id = refl;
        }))
        | no_is t ↦ t
      ] in
      rw none (rw (past-left m older w e) (past-marked_both older g.2 w marks
      (λ i n r t. rw (past-left m older w e) at (f i n (inr r) t))
      (λ i n r q. b i n (inr r) (rw (past-left m older w e) q))))
]
  where
    stands-as : (older : History) (i : ℕ) (n m : Message) → HasNumber older i n → n ≡ m → Stands older m.id
    stands-as older i n m r d = record { by = n; there_is = number-in older i n r; has_id = ap (λ (z : Message). z.id) d }

pub past-marked : (h : History) (w : List Id) (marks : ℕ → Bool) → IsHistory h → MarksPast h w marks → marked marks h ≡ past h w
past-marked h w marks g k = past-marked_both h g w marks (λ i m r. (k.each i m r).0) (λ i m r. (k.each i m r).1)

-- each number below the length is a message's
number-at : (h : History) (i : ℕ) → i < length h → (m : Message) × HasNumber h i m
number-at [] i l = absurd (omega arith)
number-at (n ∷ older) i l = elim (test (nat_eq i (length older))) [
  | yes_is e ↦ (n, inl ((says-equal i (length older)).holds e, refl))
  | no_is e ↦ let r = number-at older i (
      let d : i ≢ length older = λ f. (let t = (says-equal i (length older)).told f in cc) in omega (arith, l, d)) in (r.0, inr r.1)
]

marks-forth : (h : History) (ids : List Id) (a b : ℕ → Bool) → MarksPast h ids a → MarksPast h ids b → (i : ℕ) → a i ≡ true → b i ≡ true
marks-forth h ids a b k l i e =
    let r = number-at h i (k.within i e) in
    (l.each i r.0 r.1).1 ((k.each i r.0 r.1).0 e)

-- the marks of a past are one set
pub marks-one : (h : History) (ids : List Id) (a b : ℕ → Bool) → MarksPast h ids a → MarksPast h ids b → (i : ℕ) → a i ≡ b i
marks-one h ids a b k l i = elim (test (a i)) [
  | yes_is e ↦ e ∙ sym (marks-forth h ids a b k l i e)
  | no_is e ↦ elim (test (b i)) [
    | yes_is d ↦ absurd (let c : a i ≡ true = marks-forth h ids b a l k i d in cc)
    | no_is d ↦ e ∙ sym d
  ]
]

-- one message more behind the oldest-first list
pub pushed : (list : List Message) (m : Message) → reverse (list ++ m ∷ []) ≡ m ∷ reverse list
pushed list m = reverse-append list (m ∷ [])
