-- "Remove wins" is a membership rule.
use Rattle.std.proofs.Common.{◌≡◌, ◌⊎◌, inl, inr, List, [], ◌∷◌, ◌++◌, sym, subst, ap, ◌∙◌, refl}
use Rattle.group_model.specs.Sets.{Id, In, here, there, has, Within, IsDistinct}
use Rattle.group_model.specs.Messages.{Kind, Create, Update, Remove, Add, Ack, AddAck, Text, Message, History}
use Rattle.group_model.specs.Membership.{Names, Removes, Named, Removed, MovesNobody, IsMembershipRule, IsMember, named_by, removed_by, with_id, joined, ids_named, ids_removed, without, remove_wins}
use Rattle.group_model.proofs.ListFacts.{yes_is, no_is, test, has-In, In-has, In-nothing, In-cases, In-left, In-right, In-either, In-head}
use Rattle.group_model.proofs.Views.{Named-within}

-- what is joined stands in the one list or in the other
pub with_id-left : (ids : List Id) (i : Id) {x : Id} → In x ids → In x (with_id ids i)
with_id-left ids i k = elim (test (has ids i)) [
  | yes_is e ↦ rw e k
  | no_is e ↦ rw e (In-left (i ∷ []) k)
]

pub with_id-right : (ids : List Id) (i : Id) → In i (with_id ids i)
with_id-right ids i = elim (test (has ids i)) [
  | yes_is e ↦ rw e (has-In ids i e)
  | no_is e ↦ rw e (In-right ids here)
]

pub with_id-either : (ids : List Id) (i : Id) {x : Id} → In x (with_id ids i) → In x ids ⊎ (x ≡ i)
with_id-either ids i {x} k = elim (test (has ids i)) [
  | yes_is e ↦ inl (rw e at k)
  | no_is e ↦ elim (In-either ids (rw e at k)) [
    | inl j ↦ inl j
    | inr j ↦ elim (In-cases j) [ inl d ↦ inr d | inr n ↦ absurd (In-nothing n) ]
  ]
]

pub joined-left : (ids others : List Id) {x : Id} → In x ids → In x (joined ids others)
joined-left ids [] k = k
joined-left ids (i ∷ others) k = joined-left (with_id ids i) others (with_id-left ids i k)

pub joined-right : (ids others : List Id) {x : Id} → In x others → In x (joined ids others)
joined-right ids [] k = elim k [ ]
joined-right ids (i ∷ others) {x} k = elim (In-cases k) [
  | inl e ↦ joined-left (with_id ids i) others (rw e (with_id-right ids i))
  | inr j ↦ joined-right (with_id ids i) others j
]

pub joined-either : (ids others : List Id) {x : Id} → In x (joined ids others) → In x ids ⊎ In x others
joined-either ids [] k = inl k
joined-either ids (i ∷ others) k = elim (joined-either (with_id ids i) others k) [
  | inl j ↦ elim (with_id-either ids i j) [ inl q ↦ inl q | inr e ↦ inr (In-head others e) ]
  | inr j ↦ inr (there j)
]

-- no id stands twice
with_id-distinct : (ids : List Id) (i : Id) → IsDistinct ids → IsDistinct (with_id ids i)
with_id-distinct ids i d = elim (test (has ids i)) [
  | yes_is e ↦ rw e d
  | no_is e ↦ rw e (at_end ids d (λ k. let h = In-has ids i k in cc))
]
  where
    at_end : (ids : List Id) → IsDistinct ids → (In i ids → ⊥) → IsDistinct (ids ++ i ∷ [])
    at_end [] d n = (In-nothing, tt)
    at_end (j ∷ ids) d n = (
      λ k. elim (In-either ids k) [
        | inl q ↦ d.0 q
        | inr q ↦ elim (In-cases q) [ inl e ↦ n (rw e here) | inr z ↦ In-nothing z ]
      ],
      at_end ids d.1 (λ k. n (there k)),
    )

pub joined-distinct : (ids others : List Id) → IsDistinct ids → IsDistinct (joined ids others)
joined-distinct ids [] d = d
joined-distinct ids (i ∷ others) d = joined-distinct (with_id ids i) others (with_id-distinct ids i d)

pub ids_named-distinct : (h : History) → IsDistinct (ids_named h)
ids_named-distinct [] = tt
ids_named-distinct (m ∷ h) = joined-distinct (ids_named h) (named_by m.kind) (ids_named-distinct h)

pub Names-In : (k : Kind) (x : Id) → Names k x → In x (named_by k)
Names-In (Create members) x n = n
Names-In Update x n = absurd n
Names-In (Remove y) x n = absurd n
Names-In (Add y) x n = subst (λ z. In x (z ∷ [])) (sym n) here
Names-In (Ack o took) x n = absurd n
Names-In (AddAck o) x n = absurd n
Names-In Text x n = absurd n

pub In-Names : (k : Kind) (x : Id) → In x (named_by k) → Names k x
In-Names (Create members) x n = n
In-Names Update x n = elim n [ ]
In-Names (Remove y) x n = elim n [ ]
In-Names (Add y) x n = elim (In-cases n) [ inl e ↦ sym e | inr j ↦ elim j [ ] ]
In-Names (Ack o took) x n = elim n [ ]
In-Names (AddAck o) x n = elim n [ ]
In-Names Text x n = elim n [ ]

Removes-In : (k : Kind) (x : Id) → Removes k x → In x (removed_by k)
Removes-In (Create members) x n = absurd n
Removes-In Update x n = absurd n
Removes-In (Remove y) x n = subst (λ z. In x (z ∷ [])) (sym n) here
Removes-In (Add y) x n = absurd n
Removes-In (Ack o took) x n = absurd n
Removes-In (AddAck o) x n = absurd n
Removes-In Text x n = absurd n

In-Removes : (k : Kind) (x : Id) → In x (removed_by k) → Removes k x
In-Removes (Create members) x n = elim n [ ]
In-Removes Update x n = elim n [ ]
In-Removes (Remove y) x n = elim (In-cases n) [ inl e ↦ sym e | inr j ↦ elim j [ ] ]
In-Removes (Add y) x n = elim n [ ]
In-Removes (Ack o took) x n = elim n [ ]
In-Removes (AddAck o) x n = elim n [ ]
In-Removes Text x n = elim n [ ]

-- an id stands in the list of named ids exactly where a message names it
pub ids_named-Named : (p : History) (x : Id) → In x (ids_named p) → Named p x
ids_named-Named [] x i = elim i [ ]
ids_named-Named (m ∷ p) x i = elim (joined-either (ids_named p) (named_by m.kind) i) [
  | inr j ↦ record { by = m; there_is = here; names = In-Names m.kind x j }
  | inl j ↦ let n = ids_named-Named p x j in record { by = n.by; there_is = there n.there_is; names = n.names }
]

pub Named-ids_named : (p : History) (x : Id) → Named p x → In x (ids_named p)
Named-ids_named [] x n = elim n.there_is [ ]
Named-ids_named (m ∷ p) x n = elim (In-cases n.there_is) [
  | inl e ↦ joined-right (ids_named p) (named_by m.kind)
      (Names-In m.kind x (subst (λ (z : Message). Names z.kind x) e n.names))
  | inr j ↦ joined-left (ids_named p) (named_by m.kind)
      (Named-ids_named p x (record { by = n.by; there_is = j; names = n.names }))
]

pub ids_removed-Removed : (p : History) (x : Id) → In x (ids_removed p) → Removed p x
ids_removed-Removed [] x i = elim i [ ]
ids_removed-Removed (m ∷ p) x i = elim (joined-either (ids_removed p) (removed_by m.kind) i) [
  | inr j ↦ record { by = m; there_is = here; removes = In-Removes m.kind x j }
  | inl j ↦ let n = ids_removed-Removed p x j in record { by = n.by; there_is = there n.there_is; removes = n.removes }
]

pub Removed-ids_removed : (p : History) (x : Id) → Removed p x → In x (ids_removed p)
Removed-ids_removed [] x n = elim n.there_is [ ]
Removed-ids_removed (m ∷ p) x n = elim (In-cases n.there_is) [
  | inl e ↦ joined-right (ids_removed p) (removed_by m.kind)
      (Removes-In m.kind x (subst (λ (z : Message). Removes z.kind x) e n.removes))
  | inr j ↦ joined-left (ids_removed p) (removed_by m.kind)
      (Removed-ids_removed p x (record { by = n.by; there_is = j; removes = n.removes }))
]

pub without-kept : (ids others : List Id) {x : Id} → In x ids → (In x others → ⊥) → In x (without ids others)
without-kept [] others i n = elim i [ ]
without-kept (y ∷ ids) others {x} i n = elim (In-cases i) [
  | inl d ↦ elim (test (has others y)) [
    | yes_is e ↦ absurd (n (subst (λ z. In z others) (sym d) (has-In others y e)))
    | no_is e ↦ rw e (subst (λ z. In x (z ∷ without ids others)) d here)
  ]
  | inr j ↦ elim (test (has others y)) [
    | yes_is e ↦ rw e (without-kept ids others j n)
    | no_is e ↦ rw e (there (without-kept ids others j n))
  ]
]

pub without-both : (ids others : List Id) {x : Id} → In x (without ids others) → In x ids × (In x others → ⊥)
without-both [] others i = elim i [ ]
without-both (y ∷ ids) others {x} i = elim (test (has others y)) [
  | yes_is e ↦ let b = without-both ids others (rw e at i) in (there b.0, b.1)
  | no_is e ↦ elim (In-cases (rw e at i)) [
    | inl d ↦ (
      subst (λ z. In z (y ∷ ids)) (sym d) here,
      λ q. let h = In-has others y (subst (λ z. In z others) d q) in cc,
    )
    | inr j ↦ let b = without-both ids others j in (there b.0, b.1)
  ]
]

-- the rule computes the members
pub remove_wins-IsMember : (p : History) (x : Id) → In x (remove_wins p) → IsMember p x
unfolding remove_wins
remove_wins-IsMember p x i = let b = without-both (ids_named p) (ids_removed p) i in
    record { named = ids_named-Named p x b.0; stays = λ r. b.1 (Removed-ids_removed p x r) }

pub IsMember-remove_wins : (p : History) (x : Id) → IsMember p x → In x (remove_wins p)
unfolding remove_wins
IsMember-remove_wins p x m = without-kept (ids_named p) (ids_removed p) (Named-ids_named p x m.named)
    (λ i. m.stays (ids_removed-Removed p x i))

Removed-within : {p q : History} {x : Id} → Within p q → Removed p x → Removed q x
Removed-within w n = record { by = n.by; there_is = w.each n.there_is; removes = n.removes }

-- who was named in a set and is out of it is out of each larger one
pub out_stays_out : (p q : History) (x : Id) → Within p q → Named p x → (IsMember p x → ⊥) → IsMember q x → ⊥
out_stays_out p q x w n out m = out (record { named = n; stays = λ r. m.stays (Removed-within w r) })

-- the answer depends on the set alone
pub set_alone : (p q : History) (x : Id) → Within p q → Within q p → IsMember p x → IsMember q x
set_alone p q x w v m = record { named = Named-within w m.named; stays = λ r. m.stays (Removed-within v r) }

-- who is named, or removed, by no newest message is it by an older one
pub Named-older : (m : Message) (p : History) (x : Id) → (Names m.kind x → ⊥) → Named (m ∷ p) x → Named p x
Named-older m p x n k = elim (In-cases k.there_is) [
  | inl d ↦ absurd (n (subst (λ (z : Message). Names z.kind x) d k.names))
  | inr j ↦ record { by = k.by; there_is = j; names = k.names }
]

pub Removed-older : (m : Message) (p : History) (x : Id) → (Removes m.kind x → ⊥) → Removed (m ∷ p) x → Removed p x
Removed-older m p x n k = elim (In-cases k.there_is) [
  | inl d ↦ absurd (n (subst (λ (z : Message). Removes z.kind x) d k.removes))
  | inr j ↦ record { by = k.by; there_is = j; removes = k.removes }
]

-- of the newest message the kind alone counts
Named-kind : (m n : Message) (p : History) (x : Id) → m.kind ≡ n.kind → Named (m ∷ p) x → Named (n ∷ p) x
Named-kind m n p x e k = elim (In-cases k.there_is) [
  | inl d ↦ record { by = n; there_is = here; names = subst (λ z. Names z x) (ap (λ (z : Message). z.kind) d ∙ e) k.names }
  | inr j ↦ record { by = k.by; there_is = there j; names = k.names }
]

Removed-kind : (m n : Message) (p : History) (x : Id) → m.kind ≡ n.kind → Removed (m ∷ p) x → Removed (n ∷ p) x
Removed-kind m n p x e k = elim (In-cases k.there_is) [
  | inl d ↦ record { by = n; there_is = here; removes = subst (λ z. Removes z x) (ap (λ (z : Message). z.kind) d ∙ e) k.removes }
  | inr j ↦ record { by = k.by; there_is = there j; removes = k.removes }
]

kinds_alone : (m n : Message) (p : History) (x : Id) → m.kind ≡ n.kind → IsMember (m ∷ p) x → IsMember (n ∷ p) x
kinds_alone m n p x e k = record {
  named = Named-kind m n p x e k.named;
  stays = λ r. k.stays (Removed-kind n m p x (sym e) r);
}

-- a message that names and removes nobody moves nobody
without_newest : (m : Message) (p : History) (x : Id) → MovesNobody m.kind → IsMember (m ∷ p) x → IsMember p x
without_newest m p x n k = record {
  named = Named-older m p x (n.names_nobody x) k.named;
  stays = λ r. k.stays (Removed-within (record { each = λ j. there j }) r);
}

with_newest : (m : Message) (p : History) (x : Id) → MovesNobody m.kind → IsMember p x → IsMember (m ∷ p) x
with_newest m p x n k = record {
  named = Named-within (record { each = λ j. there j }) k.named;
  stays = λ r. k.stays (Removed-older m p x (n.removes_nobody x) r);
}

pub remove_wins-rule : IsMembershipRule remove_wins
remove_wins-rule = record {
  named = λ p x i. (remove_wins-IsMember p x i).named;
  out_stays_out = λ p q x g h once w n out i. out_stays_out p q x w n
      (λ m. out (IsMember-remove_wins p x m)) (remove_wins-IsMember q x i);
  set_alone = λ p q x g h w v i. IsMember-remove_wins q x (set_alone p q x w v (remove_wins-IsMember p x i));
  opening = λ m members x e i. IsMember-remove_wins (m ∷ []) x (record {
    named = record { by = m; there_is = here; names = subst (λ k. Names k x) (sym e) i };
    stays = λ r. elim (In-cases r.there_is) [
      | inl d ↦ subst (λ k. Removes k x) (ap (λ (z : Message). z.kind) d ∙ e) r.removes
      | inr j ↦ In-nothing j
    ];
  });
  sender_stays = λ p m g w i keeps. let b = remove_wins-IsMember p m.sender i in
      IsMember-remove_wins (m ∷ p) m.sender (record {
        named = Named-within (record { each = λ j. there j }) b.named;
        stays = λ r. elim (In-cases r.there_is) [
          | inl d ↦ keeps (subst (λ (z : Message). Removes z.kind m.sender) d r.removes)
          | inr j ↦ b.stays (record { by = r.by; there_is = j; removes = r.removes })
        ];
      });
  newest_digests_unread = λ p m i b x g h k. IsMember-remove_wins (record m { id = i; body = b } ∷ p) x
      (kinds_alone m (record m { id = i; body = b }) p x refl (remove_wins-IsMember (m ∷ p) x k));
  others_stay = λ p m x g w n. (
    λ k. IsMember-remove_wins p x (without_newest m p x n (remove_wins-IsMember (m ∷ p) x k)),
    λ k. IsMember-remove_wins (m ∷ p) x (with_newest m p x n (remove_wins-IsMember p x k)),
  );
}
