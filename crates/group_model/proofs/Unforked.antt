-- Where nothing is forked, a valid message has all that its sender sent before in its past.
use Rattle.std.proofs.Common.{◌≡◌, ◌≢◌, ℕ, ◌+◌, ◌<◌, ◌≤◌, ◌⊎◌, inl, inr, List, [], ◌∷◌, ◌++◌, Option, refl, sym, ◌∙◌, ap, subst, arith, nat_lt}
use Rattle.std.proofs.lemmas.Bool.Decides.{nat_tests}
use Rattle.group_model.specs.Sets.{Id, In, here, there, has}
use Rattle.group_model.specs.Messages.{Message, History, past}
use Rattle.group_model.specs.Validity.{MayFollow, AllValid, IsUnforked, AreUnforked, count_of}
use Rattle.group_model.proofs.ListFacts.{yes_is, no_is, test, In-cases, other_id, equal_id}
use Rattle.group_model.proofs.Pasts.{past-taken, past-left, past-none}
use Rattle.group_model.proofs.Views.{same_or_not}

count-own : (m : Message) (h : History) (s : Id) → m.sender ≡ s → count_of s (m ∷ h) ≡ count_of s h + 1
count-own m h s e = rw (equal_id m.sender s e) refl

count-apart : (m : Message) (h : History) (s : Id) → m.sender ≢ s → count_of s (m ∷ h) ≡ count_of s h
count-apart m h s n = rw (other_id m.sender s n) refl

pub count-past : (s : Id) (h : History) (w : List Id) → count_of s (past h w) ≤ count_of s h
count-past s [] w = rw (past-none w) (omega arith)
count-past s (m ∷ h) w = elim (test (has w m.id)) [
  | no_is e ↦ rw (past-left m h w e) (elim (same_or_not m.sender s) [
    | inl d ↦ rw (count-own m h s d) (let i = count-past s h w in omega (arith, i))
    | inr d ↦ rw (count-apart m h s d) (count-past s h w)
  ])
  | yes_is e ↦ rw (past-taken m h w e) (elim (same_or_not m.sender s) [
    | inl d ↦ rw (count-own m h s d) (rw (count-own m (past h (m.predecessors ++ w)) s d)
        (let i = count-past s h (m.predecessors ++ w) in omega (arith, i)))
    | inr d ↦ rw (count-apart m h s d) (rw (count-apart m (past h (m.predecessors ++ w)) s d) (count-past s h (m.predecessors ++ w)))
  ])
]

-- a past with as many messages of s has each of them
pub past-each : (s : Id) (h : History) (w : List Id) → count_of s (past h w) ≡ count_of s h → {a : Message} → In a h → a.sender ≡ s
    → In a (past h w)
past-each s [] w e i q = elim i [ ]
past-each s (m ∷ h) w e {a} i q = elim (test (has w m.id)) [
  | no_is n ↦ let c : count_of s (past h w) ≡ count_of s (m ∷ h) = subst (λ z. count_of s z ≡ count_of s (m ∷ h)) (past-left m h w n) e in
      subst (λ z. In a z) (sym (past-left m h w n)) (elim (same_or_not m.sender s) [
        | inl d ↦ (let j = count-past s h w in let k = count-own m h s d in absurd (omega (arith, j, k, c)))
        | inr d ↦ elim (In-cases i) [
          | inl r ↦ absurd (d (ap (λ (z : Message). z.sender) (sym r) ∙ q))
          | inr r ↦ past-each s h w (c ∙ count-apart m h s d) r q
        ]
      ])
  | yes_is n ↦ let v = m.predecessors ++ w in
      let c : count_of s (m ∷ past h (m.predecessors ++ w)) ≡ count_of s (m ∷ h) = subst (λ z. count_of s z ≡ count_of s (m ∷ h)) (past-taken m h w n) e in
      subst (λ z. In a z) (sym (past-taken m h w n)) (elim (In-cases i) [
        | inl r ↦ subst (λ z. In z (m ∷ past h (m.predecessors ++ w))) (sym r) here
        | inr r ↦ there (past-each s h (m.predecessors ++ w) (elim (same_or_not m.sender s) [
          | inl d ↦ (let j = count-own m h s d in let k = count-own m (past h (m.predecessors ++ w)) s d in omega (arith, c, j, k))
          | inr d ↦ sym (count-apart m (past h (m.predecessors ++ w)) s d) ∙ c ∙ count-apart m h s d
        ]) r q)
      ])
]

-- a message of s with this number
pub record Numbered (h : History) (s : Id) (n : ℕ) : Type 0 where
  pub by : Message
  pub there_is : In by h
  pub own : by.sender ≡ s
  pub number : by.seq ≡ n

further : (m : Message) (h : History) (s : Id) (n : ℕ) → Numbered h s n → Numbered (m ∷ h) s n
further m h s n a = record { by = a.by; there_is = there a.there_is; own = a.own; number = a.number }

split : (a b : ℕ) → a ≤ b → (a ≡ b) ⊎ (a < b)
split a b l = elim (test (nat_lt a b)) [
  | yes_is e ↦ inr (grind (arith, nat_tests, e))
  | no_is e ↦ inl (grind (arith, nat_tests, e, l))
]

module _ (rule : History → List Id) (inviter : Id → Option Id) where
  pub next-number : (h : History) (m : Message) → MayFollow rule inviter h m → m.seq ≡ count_of m.sender (past h m.predecessors) + 1
  next-number [] m v = v.number ∙ ap (λ z. count_of m.sender z + 1) (sym (past-none m.predecessors))
  next-number (a ∷ h) m v = v.next

  -- where each lower number is taken, the next is the number of all
  full : (h : History) (m : Message) → MayFollow rule inviter h m → IsUnforked h m
      → ((n : ℕ) → 1 ≤ n → n ≤ count_of m.sender h → Numbered h m.sender n)
      → count_of m.sender (past h m.predecessors) ≡ count_of m.sender h
  full h m v u f = elim (split (count_of m.sender (past h m.predecessors)) (count_of m.sender h) (count-past m.sender h m.predecessors)) [
    | inl e ↦ e
    | inr l ↦ let a = f (count_of m.sender (past h m.predecessors) + 1) (omega arith) (omega (arith, l)) in
        absurd (u a.by a.there_is a.own (a.number ∙ sym (next-number h m v)))
  ]

  pub each_number : (h : History) → AllValid rule inviter h → AreUnforked h → (s : Id) (n : ℕ) → 1 ≤ n → n ≤ count_of s h → Numbered h s n
  each_number [] v u s n b c = absurd (omega (arith, b, c))
  each_number (m ∷ h) v u s n b c = elim (same_or_not m.sender s) [
    | inr d ↦ further m h s n (each_number h v.1 u.1 s n b (subst (λ z. n ≤ z) (count-apart m h s d) c))
    | inl d ↦ elim (split n (count_of s h + 1) (subst (λ z. n ≤ z) (count-own m h s d) c)) [
      | inr l ↦ further m h s n (each_number h v.1 u.1 s n b (omega (arith, l)))
      | inl e ↦ record {
        by = m;
        there_is = here;
        own = d;
        number = next-number h m v.0 ∙ ap (λ z. z + 1) (full h m v.0 u.0 (λ j x y. subst (λ z. Numbered h z j) (sym d)
            (each_number h v.1 u.1 s j x (subst (λ z. j ≤ count_of z h) d y))))
            ∙ ap (λ z. count_of z h + 1) d ∙ sym e;
      }
    ]
  ]

  -- what the sender sent before is in the past
  pub all_seen : (h : History) (m : Message) → MayFollow rule inviter h m → AllValid rule inviter h → AreUnforked h → IsUnforked h m
      → {a : Message} → In a h → a.sender ≡ m.sender → In a (past h m.predecessors)
  all_seen h m v w u n i e = past-each m.sender h m.predecessors (full h m v n (λ j x y. each_number h w u m.sender j x y)) i e

  -- no message has a number past the count
  pub number-within : (h : History) → AllValid rule inviter h → {a : Message} → In a h → a.seq ≤ count_of a.sender h
  number-within [] v i = elim i [ ]
  number-within (m ∷ h) v here = let e = next-number h m v.0 in let c = count-past m.sender h m.predecessors in
      let d = count-own m h m.sender refl in omega (arith, e, c, d)
  number-within (m ∷ h) v (there {x = a} i) = elim (same_or_not m.sender a.sender) [
    | inl e ↦ (let c = number-within h v.1 i in let d = count-own m h a.sender e in omega (arith, c, d))
    | inr n ↦ (let c = number-within h v.1 i in let d = count-apart m h a.sender n in omega (arith, c, d))
  ]
