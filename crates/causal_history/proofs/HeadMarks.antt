-- Heads by marks: what is marked, and followed by nothing that is.
use Rattle.std.proofs.Common.{◌≡◌, ◌≢◌, ℕ, ◌+◌, ◌<◌, Bool, true, false, inl, inr, List, [], ◌∷◌, ◌++◌, length, get_or, Contains, zero, suc, Result, Ok, Err, IfOk, Option, None, Some, MatchOption, is_some, refl, sym, ◌∙◌, ap, subst, arith}
use Rattle.std.proofs.lemmas.Bool.Decides.{eqb_tells}
use Rattle.group_model.specs.Sets.{Id, In, here, there, IsAscending, IsDistinct}
use Rattle.group_model.specs.Messages.{Message, History, Stands, IsHistory, IsHead, AreHeads}
use Rattle.group_model.specs.Marks.{HasNumber, marked}
use Rattle.group_model.proofs.Pasts.{same-message}
use Rattle.group_model.proofs.ListFacts.{test, yes_is, no_is, In-left, In-right, In-either, In-cases, In-nothing, In-from_Contains}
use Rattle.group_model.proofs.Ascending.{head-last, not_head, not_below}
use Rattle.group_model.proofs.Numbers.{number-in, number-below, number-one, number-of, number-same}
use Rattle.group_fields.specs.declared.ids.Digest.{Digest}
use Rattle.group_fields.specs.declared.ids.MessageId.{MessageId}
use Rattle.group_messages.specs.Messages.{ids_of}
use Rattle.causal_history.specs.Numbered.{IsLeastMissing, MarksMore, MarksHeads}
use Rattle.causal_history.specs.Followed.{MarksFollowed, IsIdBelow, AreIdsOf}
use Rattle.std.specs.List as lists
use Rattle.std.specs.List.Sorted.{IsPermutation, IsSorted}
use Rattle.std.specs.Ordering.{nat_cmp, is_lt}
use Rattle.std.specs.Cmp.Lexicographic.{slice_cmp}
use Rattle.std.specs.Str.{bytes_eq}
use Rattle.std.specs.List.{AllByRecursion}
use Rattle.std.proofs.lemmas.List.Sorted.{Contains-permutation, IsPermutation-sym}
use Rattle.std.proofs.lemmas.Map.Keys.{IsDistinct-cons, IsDistinct-head, IsDistinct-tail, IsDistinct-IsPermutation}
use Rattle.std.proofs.lemmas.Map.Made.{IsDistinct-from_AllPairs}
use Rattle.std.proofs.lemmas.Slice.Eq.{bytes_eq-Decides}
use Rattle.causal_history.proofs.IndexFacts.{bytes_eq-flip}
use Rattle.causal_history.proofs.Numbers.{number-at, number-marked, marked-number}

pub followed-start : (h : History) (marks followed : ℕ → Bool) → ((i : ℕ) → followed i ≡ false) → MarksFollowed h marks followed 0
followed-start h marks followed none = record {
  each = λ i m r. (λ t. absurd (let f = none i in cc), λ k. absurd (let l = k.below in omega arith));
}

pub followed-skip : (h : History) (marks followed : ℕ → Bool) (at : ℕ) → marks at ≡ false → MarksFollowed h marks followed at
    → MarksFollowed h marks followed (at + 1)
followed-skip h marks followed at f v = record {
  each = λ i m r. (
    λ t. let k = (v.each i m r).0 t in
        record { by = k.by; at = k.at; below = omega (arith, k.below); number = k.number; is = k.is; follows = k.follows },
    λ k. (v.each i m r).1 (record {
      by = k.by;
      at = k.at;
      below = (let d : k.at ≢ at = (λ e. let t : marks at ≡ true = subst (λ z. marks z ≡ true) e k.is in cc) in omega (arith, k.below));
      number = k.number;
      is = k.is;
      follows = k.follows;
    }),
  );
}

pub followed-step : (h : History) (marks followed further : ℕ → Bool) (at : ℕ) (o : Message) → HasNumber h at o → marks at ≡ true
    → MarksMore h o.predecessors followed further → MarksFollowed h marks followed at → MarksFollowed h marks further (at + 1)
followed-step h marks followed further at o r b x v = record {
  each = λ i m s. (
    λ t. elim ((x.each i m s).0 t) [
      | inl e ↦ let k = (v.each i m s).0 e in
          record { by = k.by; at = k.at; below = omega (arith, k.below); number = k.number; is = k.is; follows = k.follows }
      | inr k ↦ record { by = o; at = at; below = omega arith; number = r; is = b; follows = k }
    ],
    λ k. (x.each i m s).1 (elim (eqb_tells k.at at) [
      | inl e ↦ inr (subst (λ (z : Message). In m.id z.predecessors)
          (number-one h at k.by o (subst (λ z. HasNumber h z k.by) e.1 k.number) r) k.follows)
      | inr e ↦ inl ((v.each i m s).1 (record {
        by = k.by;
        at = k.at;
        below = omega (arith, k.below, e.1);
        number = k.number;
        is = k.is;
        follows = k.follows;
      }))
    ]),
  );
}

-- marked, followed by nothing, and below a bound
pub record HeadsBelow (h : History) (marks followed heads : ℕ → Bool) (bound : ℕ) : Type 0 where
  pub yes : (i : ℕ) → heads i ≡ true → (i < bound) × (marks i ≡ true) × (followed i ≡ false)
  pub all : (i : ℕ) → i < bound → marks i ≡ true → followed i ≡ false → heads i ≡ true

pub heads-start : (h : History) (marks followed heads : ℕ → Bool) → ((i : ℕ) → heads i ≡ false) → HeadsBelow h marks followed heads 0
heads-start h marks followed heads none = record {
  yes = λ i t. absurd (let f = none i in cc);
  all = λ i l t f. absurd (omega arith);
}

pub heads-put : (h : History) (marks followed heads more : ℕ → Bool) (at : ℕ) → marks at ≡ true → followed at ≡ false → more at ≡ true
    → ((i : ℕ) → i ≢ at → more i ≡ heads i) → HeadsBelow h marks followed heads at → HeadsBelow h marks followed more (at + 1)
heads-put h marks followed heads more at t f put same v = record {
  yes = λ i e. elim (eqb_tells i at) [
    | inl p ↦ (omega (arith, p.1), subst (λ z. marks z ≡ true) (sym p.1) t, subst (λ z. followed z ≡ false) (sym p.1) f)
    | inr p ↦ let k = v.yes i (sym (same i p.1) ∙ e) in (omega (arith, k.0), k.1, k.2)
  ];
  all = λ i l u g. elim (eqb_tells i at) [
    | inl p ↦ rw p.1 put
    | inr p ↦ same i p.1 ∙ v.all i (omega (arith, p.1)) u g
  ];
}

pub heads-unmarked : (h : History) (marks followed heads : ℕ → Bool) (at : ℕ) → marks at ≡ false → HeadsBelow h marks followed heads at
    → HeadsBelow h marks followed heads (at + 1)
heads-unmarked h marks followed heads at f v = record {
  yes = λ i e. let k = v.yes i e in (omega (arith, k.0), k.1, k.2);
  all = λ i l u g. let d : i ≢ at = (λ p. let t : marks at ≡ true = subst (λ z. marks z ≡ true) p u in cc) in
      v.all i (omega arith) u g;
}

pub heads-followed : (h : History) (marks followed heads : ℕ → Bool) (at : ℕ) → followed at ≡ true → HeadsBelow h marks followed heads at
    → HeadsBelow h marks followed heads (at + 1)
heads-followed h marks followed heads at t v = record {
  yes = λ i e. let k = v.yes i e in (omega (arith, k.0), k.1, k.2);
  all = λ i l u g. let d : i ≢ at = (λ p. let f : followed at ≡ false = subst (λ z. followed z ≡ false) p g in cc) in
      v.all i (omega arith) u g;
}

pub heads-end : (h : History) → IsHistory h → (marks followed heads : ℕ → Bool) (bound : ℕ) → bound ≡ length h → MarksFollowed h marks followed bound
    → HeadsBelow h marks followed heads bound → MarksHeads h marks heads
heads-end h g marks followed heads bound size k v = record {
  each = λ i m r. (
    λ t. let w = v.yes i t in head-last (marked marks h) m (number-marked h marks i m r w.1) (λ b j d.
        let q = marked-number h marks j in
        let u : followed i ≡ true = (k.each i m r).1 (record {
          by = b;
          at = q.at;
          below = (let l = number-below h q.at b q.number in omega arith);
          number = q.number;
          is = q.is;
          follows = d;
        }) in
        let n = w.2 in cc),
    λ head. let q = marked-number h marks head.there_is in
        v.all i (let l = number-below h i m r in omega arith)
        (marked_at i m r head.there_is)
        (elim (test (followed i)) [
          | no_is f ↦ f
          | yes_is t ↦ let w = (k.each i m r).0 t in
              absurd (not_head (marked marks h) m w.by (number-marked h marks w.at w.by w.number w.is) w.follows head)
        ]),
  );
  within = λ i t. let w = v.yes i t in omega (arith, w.0);
}
  where
    marked_at : (i : ℕ) (m : Message) → HasNumber h i m → In m (marked marks h) → marks i ≡ true
    marked_at i m r j = let q = marked-number h marks j in
        subst (λ z. marks z ≡ true) (number-same h g q.at i m q.number r) q.is

-- ---- ids that are those of the heads

-- two tests with one meaning
same_tests : (a b : Bool) → (a ≡ true → b ≡ true) → (b ≡ true → a ≡ true) → a ≡ b
same_tests true b f k = sym (f refl)
same_tests false true f k = k refl
same_tests false false f k = refl

pub heads-are : (h : History) → (marks heads named : ℕ → Bool) (none : ℕ → Bool) (ids : List Id) → IsAscending ids → MarksHeads h marks heads
    → ((i : ℕ) → none i ≡ false) → MarksMore h ids none named → ((i : Id) → In i ids → Stands h i)
    → ((i : ℕ) → i < length h → heads i ≡ named i) → AreHeads (marked marks h) ids
heads-are h marks heads named none ids a k clear n there_all same = record {
  ascending = a;
  all = λ m head.
      let q = marked-number h marks head.there_is in
      let t : named q.at ≡ true = sym (same q.at (number-below h q.at m q.number)) ∙ (k.each q.at m q.number).1 head in
      elim ((n.each q.at m q.number).0 t) [ inl e ↦ absurd (let f = clear q.at in cc) | inr i ↦ i ];
  only = λ x i.
      let s = there_all x i in
      let r = number-of h s.there_is in
      let t : named r.0 ≡ true = (n.each r.0 s.by r.1).1 (inr (subst (λ z. In z ids) (sym s.has_id) i)) in
      (s.by, (k.each r.0 s.by r.1).0 (same r.0 (number-below h r.0 s.by r.1) ∙ t), s.has_id);
}

pub heads-stand : (h : History) (marks : ℕ → Bool) (ids : List Id) → AreHeads (marked marks h) ids → (i : Id) → In i ids → Stands h i
heads-stand h marks ids a i k =
    let q = a.only i k in
    let r = marked-number h marks q.1.there_is in
    record { by = q.0; there_is = number-in h r.at q.0 r.number; has_id = q.2 }

pub heads-same : (h : History) → IsHistory h → (marks heads named : ℕ → Bool) (none : ℕ → Bool) (ids : List Id) → MarksHeads h marks heads
    → ((i : ℕ) → none i ≡ false) → MarksMore h ids none named → AreHeads (marked marks h) ids
    → (i : ℕ) → i < length h → heads i ≡ named i
heads-same h g marks heads named none ids k clear n a i l =
    let r = number-at h i l in
    same_tests (heads i) (named i)
    (λ t. (n.each i r.0 r.1).1 (inr (a.all r.0 ((k.each i r.0 r.1).0 t))))
    (λ t. elim ((n.each i r.0 r.1).0 t) [
      | inl e ↦ absurd (let f = clear i in cc)
      | inr d ↦
          let q = a.only r.0.id d in
          let w = marked-number h marks q.1.there_is in
          let e : q.0 ≡ r.0 = same-message h g (number-in h w.at q.0 w.number) (number-in h i r.0 r.1) q.2 in
          (k.each i r.0 r.1).1 (subst (λ z. IsHead (marked marks h) z) e q.1)
    ])

-- ---- the ids of the heads

distinct-push : (ids : List Id) (x : Id) → IsDistinct ids → (In x ids → ⊥) → IsDistinct (ids ++ x ∷ [])
distinct-push [] x d n = (λ i. In-nothing i, tt)
distinct-push (i ∷ ids) x d n = (
  λ k. elim (In-either ids k) [
    | inl j ↦ d.0 j
    | inr j ↦ elim (In-cases j) [ inl e ↦ n (subst (λ z. In z (i ∷ ids)) e here) | inr q ↦ In-nothing q ]
  ],
  distinct-push ids x d.1 (λ k. n (there k)),
)

pub ids-start : (h : History) (marks : ℕ → Bool) → AreIdsOf h marks 0 []
ids-start h marks = record { distinct = tt; each = λ x. (λ i. absurd (In-nothing i), λ k. absurd (let l = k.below in omega arith)) }

further : (h : History) (marks : ℕ → Bool) (at : ℕ) (x : Id) → IsIdBelow h marks at x → IsIdBelow h marks (at + 1) x
further h marks at x k =
    record { by = k.by; at = k.at; below = omega (arith, k.below); number = k.number; is = k.is; has_id = k.has_id }

pub ids-skip : (h : History) (marks : ℕ → Bool) (at : ℕ) (ids : List Id) → marks at ≡ false → AreIdsOf h marks at ids
    → AreIdsOf h marks (at + 1) ids
ids-skip h marks at ids f v = record {
  distinct = v.distinct;
  each = λ x. (
    λ i. further h marks at x ((v.each x).0 i),
    λ k. (v.each x).1 (record {
      by = k.by;
      at = k.at;
      below = (let d : k.at ≢ at = (λ e. let t : marks at ≡ true = subst (λ z. marks z ≡ true) e k.is in cc) in omega (arith, k.below));
      number = k.number;
      is = k.is;
      has_id = k.has_id;
    }),
  );
}

pub ids-put : (h : History) → IsHistory h → (marks : ℕ → Bool) (at : ℕ) (ids : List Id) (m : Message) (x : Id) → HasNumber h at m
    → marks at ≡ true → x ≡ m.id → AreIdsOf h marks at ids → AreIdsOf h marks (at + 1) (ids ++ x ∷ [])
ids-put h g marks at ids m x r t e v = record {
  distinct = distinct-push ids x v.distinct (λ i.
      let k = (v.each x).0 i in
      let a : k.by ≡ m = same-message h g (number-in h k.at k.by k.number) (number-in h at m r) (k.has_id ∙ e) in
      let b : k.at ≡ at = number-same h g k.at at m (subst (λ z. HasNumber h k.at z) a k.number) r in
      let l = k.below in absurd (omega arith));
  each = λ y. (
    λ i. elim (In-either ids i) [
      | inl j ↦ further h marks at y ((v.each y).0 j)
      | inr j ↦ elim (In-cases j) [
        | inl d ↦ record { by = m; at = at; below = omega arith; number = r; is = t; has_id = sym (d ∙ e) }
        | inr q ↦ absurd (In-nothing q)
      ]
    ],
    λ k. elim (eqb_tells k.at at) [
      | inl d ↦
          let a : k.by ≡ m = number-one h at k.by m (subst (λ z. HasNumber h z k.by) d.1 k.number) r in
          let i : x ≡ y = e ∙ (ap (λ (z : Message). z.id) (sym a) ∙ k.has_id) in
          In-right ids (subst (λ z. In z (x ∷ [])) i here)
      | inr d ↦ In-left (x ∷ []) ((v.each y).1 (record {
        by = k.by;
        at = k.at;
        below = omega (arith, k.below, d.1);
        number = k.number;
        is = k.is;
        has_id = k.has_id;
      }))
    ],
  );
}

-- distinct ids, by the test
apart : (i : Id) (ids : List Id) → (In i ids → ⊥) → AllByRecursion (λ y. bytes_eq i y ≡ false) ids
apart i [] n = tt
apart i (j ∷ ids) n = (
  elim (test (bytes_eq i j)) [
    | yes_is t ↦ absurd (n (subst (λ z. In z (j ∷ ids)) (sym ((bytes_eq-Decides i j).0 t)) here))
    | no_is f ↦ f
  ],
  apart i ids (λ k. n (there k)),
)

distinct-tests : (ids : List Id) → IsDistinct ids → lists.IsDistinct bytes_eq ids
distinct-tests [] d = IsDistinct-from_AllPairs bytes_eq-Decides [] (λ i j x l k e. absurd (omega arith))
distinct-tests (i ∷ ids) d = IsDistinct-cons bytes_eq i ids (apart i ids d.0) (distinct-tests ids d.1)

-- distinct ids that are sorted ascend
sorted-ascending : (ids : List Id) → IsSorted (slice_cmp nat_cmp) ids → lists.IsDistinct bytes_eq ids → IsAscending ids
sorted-ascending [] s d = tt
sorted-ascending (i ∷ []) s d = tt
sorted-ascending (i ∷ (j ∷ ids)) s d = (
  not_below i j
      (λ b. let f : is_lt (slice_cmp nat_cmp j i) ≡ false = s zero i (omega arith) (omega arith) in
      let t : is_lt (slice_cmp nat_cmp j i) ≡ true = ap is_lt b in cc)
      (λ e. let f : bytes_eq i j ≡ false = (IsDistinct-head bytes_eq i (j ∷ ids) d).0 in
      let t : bytes_eq i j ≡ true = (bytes_eq-Decides i j).1 (sym e) in cc),
  sorted-ascending (j ∷ ids) (λ k x low high.
      let e : suc k + 1 ≡ suc (k + 1) = omega arith in
      let f : is_lt (slice_cmp nat_cmp (get_or (i ∷ (j ∷ ids)) (suc k + 1) x) (get_or (j ∷ ids) k x)) ≡ false =
      s (suc k) x (omega arith) (omega (arith, high)) in
      subst (λ z. is_lt (slice_cmp nat_cmp (get_or (i ∷ (j ∷ ids)) z x) (get_or (j ∷ ids) k x)) ≡ false) e f)
      (IsDistinct-tail bytes_eq i (j ∷ ids) d),
)

In-contains : (xs : List Id) {x : Id} → In x xs → Contains xs x
In-contains [] i = elim i [ ]
In-contains (y ∷ xs) here = (zero, omega arith, refl)
In-contains (y ∷ xs) (there i) = let c = In-contains xs i in (suc c.0, omega (arith, c.1), c.2)

sorted-in : (xs ys : List Id) (x : Id) → IsPermutation xs ys → In x xs → In x ys
sorted-in xs ys x p i = In-from_Contains ys x (Contains-permutation xs ys x p (In-contains xs i))

pub heads-list : (h : History) → IsHistory h → (marks heads : ℕ → Bool) (bound : ℕ) (ids sorted : List Id) → bound ≡ length h
    → marked marks h ≡ h → MarksHeads h marks heads → AreIdsOf h heads bound ids → IsPermutation ids sorted
    → IsSorted (slice_cmp nat_cmp) sorted → AreHeads h sorted
heads-list h g marks heads bound ids sorted size whole k v perm order = record {
  ascending = sorted-ascending sorted order (IsDistinct-IsPermutation bytes_eq bytes_eq-flip ids sorted perm (distinct-tests ids v.distinct));
  all = λ a head.
      let r = number-of h head.there_is in
      let t : heads r.0 ≡ true = (k.each r.0 a r.1).1 (subst (λ z. IsHead z a) (sym whole) head) in
      sorted-in ids sorted a.id perm ((v.each a.id).1 (record {
        by = a;
        at = r.0;
        below = (let l = number-below h r.0 a r.1 in omega arith);
        number = r.1;
        is = t;
        has_id = refl;
      }));
  only = λ x i.
      let q = (v.each x).0 (sorted-in sorted ids x (IsPermutation-sym ids sorted perm) i) in
      (q.by, subst (λ z. IsHead z q.by) whole ((k.each q.at q.by q.number).0 q.is), q.has_id);
}

-- ---- whether all predecessors are there

pub all-there : (h : History) (ids : List Id) (r : Option MessageId) → is_some r ≡ false
    → MatchOption r ((i : Id) → In i ids → Stands h i) (λ (id : MessageId). IsLeastMissing h ids id.0.0) → (i : Id) → In i ids → Stands h i
all-there h ids None e m = m
all-there h ids (Some x) e m = absurd cc

pub not_missing : (h : History) (ids : List Id) (r : Option MessageId) → is_some r ≡ true
    → MatchOption r ((i : Id) → In i ids → Stands h i) (λ (id : MessageId). IsLeastMissing h ids id.0.0)
    → ((i : Id) → In i ids → Stands h i) → ⊥
not_missing h ids None e m all = absurd cc
not_missing h ids (Some x) e m all = m.missing (all x.0.0 m.among)

pub heads-listed : {E : Type 0} (h : History) (sorted : List Id) (r : Result (List Digest) E) → AreHeads h sorted
    → IfOk r (λ list. ids_of list ≡ sorted) → IfOk r (λ list. AreHeads h (ids_of list))
heads-listed h sorted (Ok list) a e = subst (λ z. AreHeads h z) (sym e) a
heads-listed h sorted (Err x) a e = tt
