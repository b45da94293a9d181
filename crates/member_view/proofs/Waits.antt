-- What a member has met, by marks.
use Rattle.std.proofs.Common.{IsTrue, ◌≡◌, ◌≢◌, ℕ, ◌+◌, ◌<◌, ◌≤◌, Bool, true, false, ◌⊎◌, inl, inr, ◌↔◌, List, [], ◌∷◌, length, refl, sym, ◌∙◌, ap, subst, arith}
use Rattle.std.proofs.lemmas.Bool.Decides.{eqb_tells}
use Rattle.group_model.specs.Sets.{Id, In, here, there}
use Rattle.group_model.specs.Messages.{Kind, Create, Update, Remove, Add, Ack, AddAck, Text, Message, History, past, IsHistory, Stands}
use Rattle.group_model.specs.Validity.{Answers, IsUnanswered}
use Rattle.group_model.specs.Plain.{HasAnswered}
use Rattle.group_model.specs.Marks.{HasNumber, marked}
use Rattle.group_model.proofs.ListFacts.{test, yes_is, no_is, In-cases, In-nothing}
use Rattle.group_model.proofs.Pasts.{past-closed, past-direct, past-least, deps-stand, same-message, with_past-history}
use Rattle.group_model.proofs.Numbers.{number-in, number-below, number-one, number-same}
use Rattle.causal_history.specs.Numbered.{MarksMore}
use Rattle.member_view.specs.Waiting.{IsOlder, IsMet, MarksThose, MarksMet, IsOfOthers}
use Rattle.member_view.proofs.Oldest.{marked-number, number-marked, marked-within, so_far, so_far-taken, so_far-left, so_far-none, so_far-all}

-- what a message has as predecessor has a lower number
pub number-older : (h : History) → IsHistory h → (i j : ℕ) (m n : Message) → HasNumber h i m → HasNumber h j n → In n.id m.predecessors → j < i
number-older [] g i j m n r s d = absurd r
number-older (l ∷ older) g i j m n (inl e) (inl f) d =
    absurd (g.1 (g.0 l.id (subst (λ (z : Message). In l.id z.predecessors) e.1 (subst (λ (z : Message). In z.id m.predecessors) f.1 d))))
number-older (l ∷ older) g i j m n (inl e) (inr s) d = let k = number-below older j n s in let q = e.0 in omega arith
number-older (l ∷ older) g i j m n (inr r) (inl f) d =
    absurd (g.1 (deps-stand older g.2 (number-in older i m r) l.id (subst (λ (z : Message). In z.id m.predecessors) f.1 d)))
number-older (l ∷ older) g i j m n (inr r) (inr s) d = number-older older g.2 i j m n r s d

-- a predecessor of what is marked is marked
pub marked-closed : (h : History) → IsHistory h → (marks : ℕ → Bool) → IsHistory (marked marks h) → {m n : Message} → In m (marked marks h) → In n h
    → In n.id m.predecessors → In n (marked marks h)
marked-closed h g marks f {m} {n} i j d =
    let s : Stands (marked marks h) n.id = deps-stand (marked marks h) f i n.id d in
    subst (λ z. In z (marked marks h)) (same-message h g (marked-within h marks s.there_is) j s.has_id) s.there_is

-- the marks of the one set, and of the predecessors of o
abbrev pub MarksBefore : History → (marks wider : ℕ → Bool) → Message → Type 0
MarksBefore h marks wider o = MarksThose h marks wider (λ n. In n.id o.predecessors)

-- marks of what is older, in a downward sweep that has come to a number
pub record OlderSwept (h : History) (marks : ℕ → Bool) (s : Id) (older : ℕ → Bool) (at : ℕ) : Type 0 where
  pub sound : (i : ℕ) (m : Message) → HasNumber h i m → older i ≡ true → IsOlder (marked marks h) s m
  pub closed : (i j : ℕ) (m n : Message) → at ≤ i → HasNumber h i m → HasNumber h j n → marks i ≡ true → (older i ≡ true) ⊎ (m.kind ≡ Add s)
      → In n.id m.predecessors → older j ≡ true

pub older-start : (h : History) (marks : ℕ → Bool) (s : Id) (older : ℕ → Bool) (at : ℕ) → length h ≤ at → ((i : ℕ) → older i ≡ false) → OlderSwept h marks s older at
older-start h marks s older at l clear = record {
  sound = λ i m r t. absurd (let f = clear i in cc);
  closed = λ i j m n k r u b t d. let q = number-below h i m r in absurd (omega arith);
}

equal_or_above : (at i : ℕ) → at ≤ i → (i ≡ at) ⊎ (at + 1 ≤ i)
equal_or_above at i l = elim (eqb_tells i at) [ inl e ↦ inl e.1 | inr e ↦ inr (omega arith) ]

pub older-step : (h : History) → IsHistory h → (marks : ℕ → Bool) → IsHistory (marked marks h) → (s : Id) (older wider : ℕ → Bool) (at : ℕ) (o : Message)
    → HasNumber h at o → marks at ≡ true → (older at ≡ true) ⊎ (o.kind ≡ Add s) → OlderSwept h marks s older (at + 1)
    → MarksBefore h older wider o → OlderSwept h marks s wider at
older-step h g marks f s older wider at o r b lead v x = record {
  sound = λ i n u e. elim ((x.each i n u).0 e) [
    | inl t ↦ v.sound i n u t
    | inr q ↦ led n (number-in h i n u) q lead
  ];
  closed = λ i j m n l k u c t d. elim (equal_or_above at i l) [
    | inl e ↦ (x.each j n u).1 (inr (subst (λ (z : Message). In n.id z.predecessors) (number-one h at m o (subst (λ z. HasNumber h z m) e k) r) d))
    | inr a ↦ (x.each j n u).1 (inl (v.closed i j m n a k u c (was i m a k t) d))
  ];
}
  where
    o_in : In o (marked marks h)
    o_in = number-marked h marks at o r b

    led : (n : Message) → In n h → In n.id o.predecessors → (older at ≡ true) ⊎ (o.kind ≡ Add s) → IsOlder (marked marks h) s n
    led n j d (inl t) = let z = v.sound at o r t in record {
      by = z.by;
      there_is = z.there_is;
      adds = z.adds;
      older = past-closed (marked marks h) f z.by.predecessors z.older (marked-closed h g marks f o_in j d) d;
    }
    led n j d (inr e) = record {
      by = o;
      there_is = o_in;
      adds = e;
      older = past-direct (marked marks h) o.predecessors (marked-closed h g marks f o_in j d) d;
    }

    was : (i : ℕ) (m : Message) → at + 1 ≤ i → HasNumber h i m → (wider i ≡ true) ⊎ (m.kind ≡ Add s) → (older i ≡ true) ⊎ (m.kind ≡ Add s)
    was i m a k (inl t) = elim ((x.each i m k).0 t) [
      | inl q ↦ inl q
      | inr q ↦ let z = number-older h g at i o m r k q in absurd (omega arith)
    ]
    was i m a k (inr e) = inr e

pub older-end : (h : History) (marks : ℕ → Bool) (s : Id) (older : ℕ → Bool) (at : ℕ) → at ≤ 0 → OlderSwept h marks s older at → (i : ℕ) (m : Message) → HasNumber h i m
    → ((older i ≡ true) ↔ IsOlder (marked marks h) s m)
older-end h marks s older at l v i m r = (
  λ t. v.sound i m r t,
  λ o. let k = marked-number h marks o.there_is in past-least (marked marks h) o.by.predecessors Q
      (λ a x d. λ n u. v.closed k.number n o.by a (omega arith) k.is_row u k.marked (inr o.adds) d)
      (λ a c x y q d. λ n u. let w = marked-number h marks x in v.closed w.number n a c (omega arith) w.is_row u w.marked (inl (q w.number w.is_row)) d)
      o.older i r,
)
  where
    Q : Message → Type 0
    Q a = (n : ℕ) → HasNumber h n a → older n ≡ true

-- ---- marks of messages with a property

pub those-none : (h : History) (marks : ℕ → Bool) (P : Message → Type 0) → ((i : ℕ) (m : Message) → HasNumber h i m → P m → ⊥) → MarksThose h marks marks P
those-none h marks P not_so = record { each = λ i m r. (λ t. inl t, λ k. elim k [ inl t ↦ t | inr q ↦ absurd (not_so i m r q) ]) }

pub those-one : (h : History) → IsHistory h → (marks wider : ℕ → Bool) (P : Message → Type 0) (at : ℕ) (o : Message) → HasNumber h at o → P o
    → ((m : Message) → In m h → P m → m.id ≡ o.id) → wider at ≡ true → ((i : ℕ) → i ≢ at → wider i ≡ marks i) → MarksThose h marks wider P
those-one h g marks wider P at o r q only t same = record {
  each = λ i m u. elim (eqb_tells i at) [
    | inl e ↦ (
      λ k. inr (subst P (number-one h at o m r (subst (λ z. HasNumber h z m) e.1 u)) q),
      λ k. rw (e.1) t,
    )
    | inr e ↦ (
      λ k. inl (sym (same i e.1) ∙ k),
      λ k. elim k [
        | inl b ↦ same i e.1 ∙ b
        | inr b ↦ absurd (e.1 (number-same h g i at o
            (subst (λ z. HasNumber h i z) (same-message h g (number-in h i m u) (number-in h at o r) (only m (number-in h i m u) b)) u) r))
      ],
    )
  ];
}

-- a kind answers one id
pub answers-one : (k : Kind) (a b : Id) → Answers k a → Answers k b → a ≡ b
answers-one (Create members) a b x y = absurd x
answers-one Update a b x y = absurd x
answers-one (Remove z) a b x y = absurd x
answers-one (Add z) a b x y = absurd x
answers-one (Ack o took) a b x y = sym x ∙ y
answers-one (AddAck o) a b x y = sym x ∙ y
answers-one Text a b x y = absurd x

-- the one message that is answered
pub those-answer : (h : History) → IsHistory h → (marks wider : ℕ → Bool) (s : Id) (m : Message) (at : ℕ) (o : Message) → HasNumber h at o
    → m.sender ≡ s → Answers m.kind o.id → wider at ≡ true → ((i : ℕ) → i ≢ at → wider i ≡ marks i)
    → MarksThose h marks wider (λ z. (m.sender ≡ s) × Answers m.kind z.id)
those-answer h g marks wider s m at o r e q t same = those-one h g marks wider (λ z. (m.sender ≡ s) × Answers m.kind z.id) at o r (e, q)
    (λ z i k. answers-one m.kind z.id o.id k.1 q) t same

pub those-no_answer : (h : History) (marks : ℕ → Bool) (s : Id) (m : Message) → ((o : Message) → In o h → Answers m.kind o.id → ⊥)
    → MarksThose h marks marks (λ z. (m.sender ≡ s) × Answers m.kind z.id)
those-no_answer h marks s m miss = those-none h marks (λ z. (m.sender ≡ s) × Answers m.kind z.id) (λ i z r k. miss z (number-in h i z r) k.1)

-- more marks, as those of a property
pub those-more : (h : History) (ids : List Id) (marks wider : ℕ → Bool) → MarksMore h ids marks wider → MarksThose h marks wider (λ m. In m.id ids)
those-more h ids marks wider v = record { each = v.each }

-- a member's answer to the id
abbrev pub IsAnswer : Id → Message → Id → Type 0
IsAnswer s a y = (a.sender ≡ s) × Answers a.kind y

-- those that the marked ones so far answer
pub answered-start : (h : History) (marks met : ℕ → Bool) (s : Id) → MarksThose h met met (λ m. HasAnswered (so_far marks h 0) s m.id)
answered-start h marks met s = subst (λ z. MarksThose h met met (λ m. HasAnswered z s m.id)) (sym (so_far-none marks h))
    (those-none h met (λ m. HasAnswered [] s m.id) (λ i m r a. In-nothing a.there_is))

answered-more : (h p : History) (met wide wider : ℕ → Bool) (o : Message) (s : Id)
    → MarksThose h met wide (λ m. HasAnswered p s m.id) → MarksThose h wide wider (λ m. IsAnswer s o m.id)
    → MarksThose h met wider (λ m. HasAnswered (o ∷ p) s m.id)
answered-more h p met wide wider o s v x = record {
  each = λ i m u. (
    λ k. elim ((x.each i m u).0 k) [
      | inl b ↦ elim ((v.each i m u).0 b) [
        | inl q ↦ inl q
        | inr a ↦ inr (record { by = a.by; there_is = there a.there_is; own = a.own; answers = a.answers })
      ]
      | inr b ↦ inr (record { by = o; there_is = here; own = b.0; answers = b.1 })
    ],
    λ k. elim k [
      | inl q ↦ (x.each i m u).1 (inl ((v.each i m u).1 (inl q)))
      | inr a ↦ elim (In-cases a.there_is) [
        | inl d ↦ (x.each i m u).1 (inr (subst (λ (z : Message). IsAnswer s z m.id) d (a.own, a.answers)))
        | inr j ↦ (x.each i m u).1 (inl ((v.each i m u).1 (inr (record { by = a.by; there_is = j; own = a.own; answers = a.answers }))))
      ]
    ],
  );
}

pub answered-marked : (h : History) (marks met wide wider : ℕ → Bool) (at : ℕ) (o : Message) (s : Id) → HasNumber h at o → marks at ≡ true
    → MarksThose h met wide (λ m. HasAnswered (so_far marks h at) s m.id) → MarksThose h wide wider (λ m. IsAnswer s o m.id)
    → MarksThose h met wider (λ m. HasAnswered (so_far marks h (at + 1)) s m.id)
answered-marked h marks met wide wider at o s r t v x =
    subst (λ z. MarksThose h met wider (λ m. HasAnswered z s m.id)) (sym (so_far-taken marks h at o r t))
    (answered-more h (so_far marks h at) met wide wider o s v x)

pub answered-skipped : (h : History) (marks met wide : ℕ → Bool) (at : ℕ) (o : Message) (s : Id) → HasNumber h at o → marks at ≡ false
    → MarksThose h met wide (λ m. HasAnswered (so_far marks h at) s m.id)
    → MarksThose h met wide (λ m. HasAnswered (so_far marks h (at + 1)) s m.id)
answered-skipped h marks met wide at o s r t v =
    subst (λ z. MarksThose h met wide (λ m. HasAnswered z s m.id)) (sym (so_far-left marks h at o r t)) v

pub answered-end : (h : History) (marks met wide : ℕ → Bool) (at : ℕ) (s : Id) → length h ≤ at
    → MarksThose h met wide (λ m. HasAnswered (so_far marks h at) s m.id)
    → MarksThose h met wide (λ m. HasAnswered (marked marks h) s m.id)
answered-end h marks met wide at s l v =
    subst (λ z. MarksThose h met wide (λ m. HasAnswered z s m.id)) (so_far-all marks h at l) v

-- ---- what waits

pub met-no_wait : (p : History) → IsHistory p → (s : Id) (o : Message) → IsUnanswered p s o → IsMet p s o → ⊥
met-no_wait p g s o u (inl k) = elim (u.counts k.by k.there_is k.adds) [
  | inl e ↦ (with_past-history p g u.there_is).1 (record { by = o; has_id = refl; there_is = subst (λ (z : Message). In o (past p z.predecessors)) (sym e) k.older })
  | inr f ↦ f k.older
]
met-no_wait p g s o u (inr a) = u.unmet a.by a.there_is a.own a.answers

pub waits-unmet : (p : History) (s : Id) (o : Message) → In o p → IsOfOthers o s → (IsMet p s o → ⊥) → IsUnanswered p s o
waits-unmet p s o i k not_so = record {
  there_is = i;
  operation = k.0;
  others = k.1;
  unmet = λ a j e n. not_so (inr (record { by = a; there_is = j; own = e; answers = n }));
  counts = λ b j e. inr (λ q. not_so (inl (record { by = b; there_is = j; adds = e; older = q })));
}

pub wait-is : (h : History) → IsHistory h → (marks met : ℕ → Bool) → IsHistory (marked marks h) → (s : Id) (at : ℕ) (m : Message) → HasNumber h at m
    → MarksMet h (marked marks h) s met
    → ((marks at ≡ true) × (met at ≡ false) × IsOfOthers m s) ↔ IsUnanswered (marked marks h) s m
wait-is h g marks met f s at m r same = (
  λ k. waits-unmet (marked marks h) s m (number-marked h marks at m r k.0) k.2 (λ q. let z = (same at m r).1 q in let y = k.1 in cc),
  λ u. let k = marked-number h marks u.there_is in
      let n : marks at ≡ true = subst (λ z. marks z ≡ true) (number-same h g k.number at m k.is_row r) k.marked in
      let z : met at ≡ false = elim (test (met at)) [
        | yes_is t ↦ absurd (met-no_wait (marked marks h) f s m u ((same at m r).0 t))
        | no_is t ↦ t
      ] in
      (n, z, (u.operation, u.others)),
)

-- ---- marks of what is met

pub met-both : (h p : History) (s : Id) (older met : ℕ → Bool) → ((i : ℕ) (m : Message) → HasNumber h i m → (older i ≡ true) ↔ IsOlder p s m)
    → MarksThose h older met (λ o. HasAnswered p s o.id) → MarksMet h p s met
met-both h p s older met f v i o r = (
  λ t. elim ((v.each i o r).0 t) [ inl k ↦ inl ((f i o r).0 k) | inr a ↦ inr a ],
  λ k. elim k [ inl q ↦ (v.each i o r).1 (inl ((f i o r).1 q)) | inr a ↦ (v.each i o r).1 (inr a) ],
)

-- an add of one id is that of another exactly where they are one
pub adds-same : (y x : Id) (k : Kind) (b : Bool) → Add y ≡ k → IsTrue b ↔ (y ≡ x) → IsTrue b ↔ (k ≡ Add x)
adds-same y x k b e f = (
  λ t. sym e ∙ ap Add (f.0 t),
  λ d. let q : Add y ≡ Add x = e ∙ d in let z : y ≡ x = cc in f.1 z,
)
