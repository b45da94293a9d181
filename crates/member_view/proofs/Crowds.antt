-- Crowds of members, id by id and message by message.
use Rattle.std.proofs.Common.{IsTrue, ◌↔◌, ◌≡◌, ◌≢◌, ℕ, zero, suc, ◌+◌, ◌<◌, ◌≤◌, Bool, true, false, ◌&&◌, not, ◌⊎◌, inl, inr, List, [], ◌∷◌, ◌++◌, length, take, drop, get_or, refl, sym, ◌∙◌, ap, subst, arith, length-append}
use Rattle.std.proofs.lemmas.Bool.Decides.{eqb_tells}
use Rattle.std.proofs.lemmas.List.{take_more, take_all, take-append-drop}
use Rattle.std.proofs.lemmas.Option.{slice_get_within, slice_get-get_or}
use Rattle.std.specs.Prelude.{slice_get, Option, Some, None}
use Rattle.group_fields.specs.declared.ids.Digest.{Digest}
use Rattle.group_messages.specs.Messages.{ids_of}
use Rattle.group_model.specs.Sets.{Id, In, here, there, has, IsDistinct}
use Rattle.group_model.specs.Messages.{Kind, Add, Message, History}
use Rattle.group_model.specs.Membership.{Names, Removes, Named, with_id, joined, ids_named, named_by, remove_wins}
use Rattle.group_model.specs.Marks.{HasNumber, IsPlace, IsCrowd}
use Rattle.group_model.proofs.ListFacts.{yes_is, no_is, test, In-cases, In-left, In-right, In-either, In-nothing, some_same}
use Rattle.group_model.proofs.Places.{place-in, place-one, place-distinct, place-joined}
use Rattle.group_model.proofs.RemoveWins.{joined-left, joined-either, with_id-either, ids_named-distinct, remove_wins-IsMember, IsMember-remove_wins}
use Rattle.group_model.proofs.Rows.{with_id-has, with_id-new}
use Rattle.member_view.specs.Crowds.{MorePlaces, IsAmong, with_last, ids_with}
use Rattle.member_view.proofs.Oldest.{so_far, so_far-taken, so_far-left}

-- ---- ids as the formats have them

pub id-at : (ids : List Digest) (n : ℕ) (d : Digest) → slice_get ids n ≡ Some d → IsPlace (ids_of ids) n d.0
id-at [] n d e = absurd cc
id-at (i ∷ ids) zero d e = let f : i ≡ d = cc in ap (λ (z : Digest). Some z.0) f
id-at (i ∷ ids) (suc n) d e = id-at ids n d e

pub ids-length : (ids : List Digest) → length (ids_of ids) ≡ length ids
ids-length [] = refl
ids-length (i ∷ ids) = ap suc (ids-length ids)

-- ---- the first ids of a list

take_zero : (more : List Id) → take 0 more ≡ []
take_zero [] = refl
take_zero (i ∷ more) = refl

pub take-next : (more : List Id) (n : ℕ) (y : Id) → IsPlace more n y → take (n + 1) more ≡ take n more ++ y ∷ []
take-next more n y e =
    let l : n < length more = slice_get_within more n y e in
    let f : get_or more n y ≡ y = some_same (sym (slice_get-get_or more n y l) ∙ e) in
    take_more more n y l ∙ ap (λ z. take n more ++ z ∷ []) f

pub next-cases : (more : List Id) (n : ℕ) (y : Id) → IsPlace more n y → {x : Id} → In x (take (n + 1) more) → (x ≡ y) ⊎ In x (take n more)
next-cases more n y e {x} k = elim (In-either (take n more) (subst (λ z. In x z) (take-next more n y e) k)) [
  | inl j ↦ inr j
  | inr j ↦ elim (In-cases j) [ inl d ↦ inl d | inr q ↦ absurd (In-nothing q) ]
]

pub next-earlier : (more : List Id) (n : ℕ) (y : Id) → IsPlace more n y → {x : Id} → In x (take n more) → In x (take (n + 1) more)
next-earlier more n y e {x} k = subst (λ z. In x z) (sym (take-next more n y e)) (In-left (y ∷ []) k)

pub next-last : (more : List Id) (n : ℕ) (y : Id) → IsPlace more n y → In y (take (n + 1) more)
next-last more n y e = subst (λ z. In y z) (sym (take-next more n y e)) (In-right (take n more) here)

-- ---- more places

pub more-none : (ids : List Id) (bits : ℕ → Bool) (P : Id → Type 0) → ((x : Id) → P x → ⊥) → MorePlaces ids bits bits P
more-none ids bits P none = record {
  each = λ p x e. (λ t. inl t, λ k. elim k [ inl t ↦ t | inr q ↦ absurd (none x q) ]);
  within = λ p t. inl t;
}

-- one place more
pub more-put : (ids : List Id) → IsDistinct ids → (bits wide wider : ℕ → Bool) (P Q : Id → Type 0) (y : Id) (at : ℕ)
    → IsPlace ids at y → wider at ≡ true → ((p : ℕ) → p ≢ at → wider p ≡ wide p)
    → ((x : Id) → Q x → (x ≡ y) ⊎ P x) → ((x : Id) → P x → Q x) → Q y
    → MorePlaces ids bits wide P → MorePlaces ids bits wider Q
more-put ids g bits wide wider P Q y at is t same cases earlier last v = record {
  each = λ p x e. (λ k. to p x e k, λ k. from p x e k);
  within = λ p k. elim (eqb_tells p at) [
    | inl q ↦ inr (rw (q.1) (slice_get_within ids at y is))
    | inr q ↦ v.within p (sym (same p q.1) ∙ k)
  ];
}
  where
    to : (p : ℕ) (x : Id) → IsPlace ids p x → wider p ≡ true → (bits p ≡ true) ⊎ Q x
    to p x e k = elim (eqb_tells p at) [
      | inl q ↦ inr (subst Q (place-one ids at y x is (subst (λ z. IsPlace ids z x) q.1 e)) last)
      | inr q ↦ elim ((v.each p x e).0 (sym (same p q.1) ∙ k)) [ inl b ↦ inl b | inr b ↦ inr (earlier x b) ]
    ]

    stays : (p : ℕ) → wide p ≡ true → wider p ≡ true
    stays p k = elim (eqb_tells p at) [ inl q ↦ rw (q.1) t | inr q ↦ same p q.1 ∙ k ]

    from : (p : ℕ) (x : Id) → IsPlace ids p x → (bits p ≡ true) ⊎ Q x → wider p ≡ true
    from p x e (inl b) = stays p ((v.each p x e).1 (inl b))
    from p x e (inr k) = elim (cases x k) [
      | inl q ↦ rw (place-distinct ids g p at x e (rw q is)) t
      | inr q ↦ stays p ((v.each p x e).1 (inr q))
    ]

-- one id alone
pub more-one : (ids : List Id) → IsDistinct ids → (bits wider : ℕ → Bool) (y : Id) (at : ℕ)
    → IsPlace ids at y → wider at ≡ true → ((p : ℕ) → p ≢ at → wider p ≡ bits p) → MorePlaces ids bits wider (λ x. y ≡ x)
more-one ids g bits wider y at is t same =
    more-put ids g bits bits wider (λ x. ⊥) (λ x. y ≡ x) y at is t same
    (λ x q. inl (sym q)) (λ x q. absurd q) refl (more-none ids bits (λ x. ⊥) (λ x q. q))

pub more-missing : (ids : List Id) (bits : ℕ → Bool) (y : Id) → (In y ids → ⊥) → MorePlaces ids bits bits (λ x. y ≡ x)
more-missing ids bits y miss = record {
  each = λ p x e. (
    λ t. inl t,
    λ t. elim t [ inl b ↦ b | inr q ↦ absurd (miss (subst (λ z. In z ids) (sym q) (place-in ids p x e))) ],
  );
  within = λ p t. inl t;
}

-- ---- message by message

-- a message of the set moves the id so
pub record Moved (R : Kind → Id → Type 0) (p : History) (x : Id) : Type 0 where
  pub by : Message
  pub there_is : In by p
  pub moves : R by.kind x

pub crowd-start : (ids : List Id) (clear : ℕ → Bool) (R : Kind → Id → Type 0) → ((p : ℕ) → clear p ≡ false)
    → IsCrowd ids clear (λ x. Moved R [] x)
crowd-start ids clear R none = record {
  each = λ p x e. (λ t. absurd (let f = none p in cc), λ b. absurd (In-nothing b.there_is));
  within = λ p t. absurd (let f = none p in cc);
}

-- one message more
pub crowd-more : (ids : List Id) (wide wider : ℕ → Bool) (p : History) (m : Message) (R : Kind → Id → Type 0)
    → IsCrowd ids wide (λ x. Moved R p x) → MorePlaces ids wide wider (λ x. R m.kind x) → IsCrowd ids wider (λ x. Moved R (m ∷ p) x)
crowd-more ids wide wider p m R v k = record {
  each = λ q x e. (
    λ t. elim ((k.each q x e).0 t) [
      | inl b ↦ let n = (v.each q x e).0 b in record { by = n.by; there_is = there n.there_is; moves = n.moves }
      | inr b ↦ record { by = m; there_is = here; moves = b }
    ],
    λ n. elim (In-cases n.there_is) [
      | inl d ↦ (k.each q x e).1 (inr (subst (λ (z : Message). R z.kind x) d n.moves))
      | inr j ↦ (k.each q x e).1 (inl ((v.each q x e).1 (record { by = n.by; there_is = j; moves = n.moves })))
    ],
  );
  within = λ q t. elim (k.within q t) [ inl b ↦ v.within q b | inr l ↦ l ];
}

pub crowd-marked : (h : History) (ids : List Id) (marks wide wider : ℕ → Bool) (at : ℕ) (m : Message) (R : Kind → Id → Type 0) → HasNumber h at m
    → marks at ≡ true → IsCrowd ids wide (λ x. Moved R (so_far marks h at) x) → MorePlaces ids wide wider (λ x. R m.kind x)
    → IsCrowd ids wider (λ x. Moved R (so_far marks h (at + 1)) x)
crowd-marked h ids marks wide wider at m R r t v k =
    subst (λ z. IsCrowd ids wider (λ x. Moved R z x)) (sym (so_far-taken marks h at m r t)) (crowd-more ids wide wider (so_far marks h at) m R v k)

pub crowd-skipped : (h : History) (ids : List Id) (marks wide : ℕ → Bool) (at : ℕ) (m : Message) (R : Kind → Id → Type 0) → HasNumber h at m
    → marks at ≡ false → IsCrowd ids wide (λ x. Moved R (so_far marks h at) x) → IsCrowd ids wide (λ x. Moved R (so_far marks h (at + 1)) x)
crowd-skipped h ids marks wide at m R r t v = subst (λ z. IsCrowd ids wide (λ x. Moved R z x)) (sym (so_far-left marks h at m r t)) v

-- who is named, and not removed
both : (a b : Bool) → (a && not b) ≡ true → (a ≡ true) × (b ≡ false)
both true true e = absurd cc
both true false e = (refl, refl)
both false b e = absurd cc

pub crowd-members : (ids : List Id) (p : History) (named removed all : ℕ → Bool)
    → IsCrowd ids named (λ x. Moved Names p x) → IsCrowd ids removed (λ x. Moved Removes p x)
    → ((q : ℕ) → all q ≡ (named q && not (removed q))) → IsCrowd ids all (λ x. In x (remove_wins p))
crowd-members ids p named removed all n r same = record {
  each = λ q x e. (
    λ t. let b = both (named q) (removed q) (sym (same q) ∙ t) in IsMember-remove_wins p x (record {
      named = let k = (n.each q x e).0 b.0 in record { by = k.by; there_is = k.there_is; names = k.moves };
      stays = λ g. let f : removed q ≡ true = (r.each q x e).1 (record { by = g.by; there_is = g.there_is; moves = g.removes }) in
          let d = b.1 in cc;
    }),
    λ i. let m = remove_wins-IsMember p x i in
        let a : named q ≡ true = (n.each q x e).1 (record { by = m.named.by; there_is = m.named.there_is; moves = m.named.names }) in
        same q ∙ rw a (elim (test (removed q)) [
          | yes_is t ↦ absurd (let g = (r.each q x e).0 t in m.stays (record { by = g.by; there_is = g.there_is; removes = g.moves }))
          | no_is t ↦ rw t refl
        ]),
  );
  within = λ q t. n.within q (both (named q) (removed q) (sym (same q) ∙ t)).0;
}

-- the same crowd of another property
pub crowd-as : (ids : List Id) (bits : ℕ → Bool) (P Q : Id → Type 0) → ((x : Id) → P x → Q x) → ((x : Id) → Q x → P x)
    → IsCrowd ids bits P → IsCrowd ids bits Q
crowd-as ids bits P Q f b v = record {
  each = λ p x e. (λ t. f x ((v.each p x e).0 t), λ q. (v.each p x e).1 (b x q));
  within = v.within;
}

pub crowd-named : (ids : List Id) (bits : ℕ → Bool) (p : History) → IsCrowd ids bits (λ x. Moved Names p x) → IsCrowd ids bits (λ x. Named p x)
crowd-named ids bits p v = crowd-as ids bits (λ x. Moved Names p x) (λ x. Named p x)
    (λ x n. record { by = n.by; there_is = n.there_is; names = n.moves })
    (λ x n. record { by = n.by; there_is = n.there_is; moves = n.names }) v

-- those of a crowd but one id
pub crowd-others : (ids : List Id) (bits : ℕ → Bool) (P : Id → Type 0) (s : Id) → (In s ids → ⊥) → IsCrowd ids bits P
    → IsCrowd ids bits (λ x. P x × (x ≢ s))
crowd-others ids bits P s miss v = record {
  each = λ p x e. (
    λ t. ((v.each p x e).0 t, λ d. miss (subst (λ z. In z ids) d (place-in ids p x e))),
    λ q. (v.each p x e).1 q.0,
  );
  within = v.within;
}

pub crowd-but : (ids : List Id) → IsDistinct ids → (bits none one all : ℕ → Bool) (P : Id → Type 0) (s : Id) (at : ℕ) → IsPlace ids at s
    → ((p : ℕ) → none p ≡ false) → one at ≡ true → ((p : ℕ) → p ≢ at → one p ≡ none p) → ((p : ℕ) → all p ≡ (bits p && not (one p)))
    → IsCrowd ids bits P → IsCrowd ids all (λ x. P x × (x ≢ s))
crowd-but ids g bits none one all P s at is clear set others same v = record {
  each = λ p x e. (
    λ t. let b = both (bits p) (one p) (sym (same p) ∙ t) in (
      (v.each p x e).0 b.0,
      λ d. let q : p ≡ at = place-distinct ids g p at s (subst (λ z. IsPlace ids p z) d e) is in
          let y : one p ≡ true = subst (λ z. one z ≡ true) (sym q) set in let f = b.1 in cc,
    ),
    λ k. let n : p ≢ at = λ q. k.1 (place-one ids at x s (subst (λ z. IsPlace ids z x) q e) is) in
        same p ∙ rw ((v.each p x e).1 k.0) (rw (others p n ∙ clear p) refl),
  );
  within = λ p t. v.within p (both (bits p) (one p) (sym (same p) ∙ t)).0;
}

-- the crowd has the place of the id exactly where the id has the property
pub among-has : (ids : List Id) (bits : ℕ → Bool) (P : Id → Type 0) (x : Id) → IsCrowd ids bits P → IsAmong ids bits x → P x
among-has ids bits P x v a = (v.each a.place x a.is).0 a.among

pub has-among : (ids : List Id) (bits : ℕ → Bool) (P : Id → Type 0) (x : Id) (p : ℕ) → IsPlace ids p x → IsCrowd ids bits P → P x → IsAmong ids bits x
has-among ids bits P x p e v q = record { place = p; is = e; among = (v.each p x e).1 q }

pub among-bit : (h : History) (bits : ℕ → Bool) (p : ℕ) (x : Id) (b : Bool) → IsPlace (ids_named h) p x → b ≡ bits p
    → IsTrue b ↔ IsAmong (ids_named h) bits x
among-bit h bits p x b e f = (
  λ t. record { place = p; is = e; among = sym f ∙ t },
  λ a. f ∙ subst (λ z. bits z ≡ true) (place-distinct (ids_named h) (ids_named-distinct h) a.place p x a.is e) a.among,
)

pub among-none : (h : History) (bits : ℕ → Bool) (x : Id) → (In x (ids_named h) → ⊥) → IsTrue false ↔ IsAmong (ids_named h) bits x
among-none h bits x miss = (
  λ t. absurd (let e : false ≡ true = t in cc),
  λ a. absurd (miss (place-in (ids_named h) a.place x a.is)),
)

-- more places, and more again
pub more-more : (ids : List Id) (a b c : ℕ → Bool) (P Q R : Id → Type 0) → ((x : Id) → P x → R x) → ((x : Id) → Q x → R x)
    → ((x : Id) → R x → Q x ⊎ P x) → MorePlaces ids a b P → MorePlaces ids b c Q → MorePlaces ids a c R
more-more ids a b c P Q R first then split v w = record {
  each = λ p x e. (
    λ t. elim ((w.each p x e).0 t) [
      | inl k ↦ elim ((v.each p x e).0 k) [ inl q ↦ inl q | inr q ↦ inr (first x q) ]
      | inr k ↦ inr (then x k)
    ],
    λ k. elim k [
      | inl t ↦ (w.each p x e).1 (inl ((v.each p x e).1 (inl t)))
      | inr r ↦ elim (split x r) [
        | inl q ↦ (w.each p x e).1 (inr q)
        | inr q ↦ (w.each p x e).1 (inl ((v.each p x e).1 (inr q)))
      ]
    ],
  );
  within = λ p t. elim (w.within p t) [ inl k ↦ v.within p k | inr l ↦ inr l ];
}

-- the next id of a list
pub more-step : (ids : List Id) (more : List Id) (n : ℕ) (y : Id) → IsPlace more n y → (a b c : ℕ → Bool)
    → MorePlaces ids a b (λ x. In x (take n more)) → MorePlaces ids b c (λ x. y ≡ x) → MorePlaces ids a c (λ x. In x (take (n + 1) more))
more-step ids more n y k a b c v w = more-more ids a b c (λ x. In x (take n more)) (λ x. y ≡ x) (λ x. In x (take (n + 1) more))
    (λ x j. next-earlier more n y k j)
    (λ x e. subst (λ z. In z (take (n + 1) more)) e (next-last more n y k))
    (λ x j. elim (next-cases more n y k j) [ inl e ↦ inl (sym e) | inr q ↦ inr q ]) v w

pub more-end : (ids : List Id) (more : List Id) (n : ℕ) (a b : ℕ → Bool) → length more ≤ n → MorePlaces ids a b (λ x. In x (take n more))
    → MorePlaces ids a b (λ x. In x more)
more-end ids more n a b l v = subst (λ z. MorePlaces ids a b (λ x. In x z)) (take_all n more l) v

pub more-first : (ids : List Id) (more : List Id) (a : ℕ → Bool) → MorePlaces ids a a (λ x. In x (take 0 more))
more-first ids more a = more-none ids a (λ x. In x (take 0 more)) (λ x i. In-nothing (subst (λ z. In x z) (take_zero more) i))

-- ---- places where one more message names ids besides

joined-after : (ids a b : List Id) → joined ids (a ++ b) ≡ joined (joined ids a) b
joined-after ids [] b = refl
joined-after ids (i ∷ a) b = joined-after (with_id ids i) a b

place-last : (ids : List Id) (x : Id) → IsPlace (ids ++ x ∷ []) (length ids) x
place-last [] x = refl
place-last (i ∷ ids) x = place-last ids x

-- the places of one message more
pub place-before : (h : History) (last : Option Message) (p : ℕ) (x : Id) → IsPlace (ids_named h) p x → IsPlace (ids_with last h) p x
place-before h None p x e = e
place-before h (Some m) p x e = place-joined (ids_named h) (named_by m.kind) p x e

pub with-distinct : (h : History) (last : Option Message) → IsDistinct (ids_with last h)
with-distinct h last = ids_named-distinct (with_last last h)

-- where it adds an id
pub place-added : (h : History) (m : Message) (x : Id) → m.kind ≡ Add x → (In x (ids_named h) → ⊥) → IsPlace (ids_named (m ∷ h)) (length (ids_named h)) x
place-added h m x e miss = subst (λ k. IsPlace (joined (ids_named h) (named_by k)) (length (ids_named h)) x) (sym e)
    (rw (with_id-new (ids_named h) x miss) (place-last (ids_named h) x))

pub missing-added : (h : History) (m : Message) (x y : Id) → m.kind ≡ Add y → (In x (ids_named h) → ⊥) → (y ≡ x → ⊥) → In x (ids_named (m ∷ h)) → ⊥
missing-added h m x y e miss other i = elim (joined-either (ids_named h) (named_by m.kind) i) [
  | inl j ↦ miss j
  | inr j ↦ elim (In-cases (subst (λ k. In x (named_by k)) e j)) [ inl d ↦ other (sym d) | inr q ↦ In-nothing q ]
]

distinct-take : (more : List Id) (k : ℕ) (y : Id) → IsDistinct more → IsPlace more k y → In y (take k more) → ⊥
distinct-take [] k y g e i = absurd cc
distinct-take (j ∷ more) zero y g e i = In-nothing i
distinct-take (j ∷ more) (suc k) y g e i = elim (In-cases i) [
  | inl d ↦ g.0 (subst (λ z. In z more) d (place-in more k y e))
  | inr q ↦ distinct-take more k y g.1 e q
]

-- a search for the id has come to the k-th of the others
pub record Sought (ids more : List Id) (k next : ℕ) (id : Id) : Type 0 where
  pub count : next ≡ length (joined ids (take k more))
  pub bound : next ≤ length ids + k
  pub none : In id (joined ids (take k more)) → ⊥

one_more : (ids more : List Id) (k : ℕ) (y : Id) → IsPlace more k y → joined ids (take (k + 1) more) ≡ with_id (joined ids (take k more)) y
one_more ids more k y e = ap (λ z. joined ids z) (take-next more k y e) ∙ joined-after ids (take k more) (y ∷ [])

pub sought-new : (ids more : List Id) (k next : ℕ) (id y : Id) → IsDistinct more → IsPlace more k y → (In y ids → ⊥) → (y ≡ id → ⊥)
    → Sought ids more k next id → Sought ids more (k + 1) (next + 1) id
sought-new ids more k next id y g l fresh other v =
    let new : In y (joined ids (take k more)) → ⊥ = λ i. elim (joined-either ids (take k more) i) [ inl q ↦ fresh q | inr q ↦ distinct-take more k y g l q ] in
    let e : joined ids (take (k + 1) more) ≡ joined ids (take k more) ++ y ∷ [] =
    one_more ids more k y l ∙ with_id-new (joined ids (take k more)) y new in
    record {
      count = let b = v.count in let f = ap length e in let a = length-append (joined ids (take k more)) (y ∷ []) in omega arith;
      bound = let b = v.bound in omega arith;
      none = λ i. elim (with_id-either (joined ids (take k more)) y (subst (λ z. In id z) (one_more ids more k y l) i)) [
        | inl q ↦ v.none q
        | inr q ↦ other (sym q)
      ];
    }

pub sought-old : (ids more : List Id) (k next : ℕ) (id y : Id) → IsPlace more k y → In y ids
    → Sought ids more k next id → Sought ids more (k + 1) next id
sought-old ids more k next id y l old v =
    let e : joined ids (take (k + 1) more) ≡ joined ids (take k more) =
    one_more ids more k y l ∙ with_id-has (joined ids (take k more)) y (joined-left ids (take k more) old) in
    record {
      count = v.count ∙ ap length (sym e);
      bound = let b = v.bound in omega arith;
      none = λ i. v.none (subst (λ z. In id z) e i);
    }

pub sought-found : (ids more : List Id) (k next : ℕ) (id : Id) → IsPlace more k id → Sought ids more k next id
    → IsPlace (joined ids more) next id
sought-found ids more k next id l v =
    let e : joined ids (take (k + 1) more) ≡ joined ids (take k more) ++ id ∷ [] =
    one_more ids more k id l ∙ with_id-new (joined ids (take k more)) id v.none in
    let whole : joined ids more ≡ joined (joined ids (take (k + 1) more)) (drop (k + 1) more) =
    ap (λ z. joined ids z) (sym (take-append-drop (k + 1) more)) ∙ joined-after ids (take (k + 1) more) (drop (k + 1) more) in
    let p : IsPlace (joined ids (take (k + 1) more)) next id = subst (λ z. IsPlace z next id) (sym e)
    (subst (λ z. IsPlace (joined ids (take k more) ++ id ∷ []) z id) (sym v.count) (place-last (joined ids (take k more)) id)) in
    subst (λ z. IsPlace z next id) (sym whole) (place-joined (joined ids (take (k + 1) more)) (drop (k + 1) more) next id p)
