use Rattle.std.proofs.Common.{◌≡◌, ◌≢◌, ◌⊎◌, inl, inr, List, [], ◌∷◌, Option, refl, sym, ◌∙◌, subst, ap}
use Rattle.std.specs.Str.{bytes_eq}
use Rattle.std.proofs.lemmas.Slice.Eq.{bytes_eq-Decides}
use Rattle.group_model.specs.Sets.{Id, In, here, there, has, Within}
use Rattle.group_model.specs.Messages.{Kind, Create, Update, Remove, Add, Ack, AddAck, Text, Message, History, past, IsHistory, with_past}
use Rattle.group_model.specs.Membership.{Names, IsSeeded, Named, NamedOnce, IsMembershipRule, InView}
use Rattle.group_model.specs.Validity.{IsOperation, Answers, IsUnanswered, AnswersOne, IsInTurn, MeetsKind}
use Rattle.group_model.proofs.ListFacts.{yes_is, no_is, test, has-In, In-has, In-nothing, In-cases, In-head}
use Rattle.group_model.proofs.Pasts.{with_past-history, past-within, past-trans, past-inside, past-of_nothing, same-message}
use Rattle.group_model.proofs.Valids.{IsValid}

pub same_or_not : (a b : Id) → (a ≡ b) ⊎ (a ≢ b)
same_or_not a b = elim (test (bytes_eq a b)) [
  | yes_is e ↦ inl ((bytes_eq-Decides a b).0 e)
  | no_is e ↦ inr (λ q. let d = (bytes_eq-Decides a b).1 q in cc)
]

In_or_not : (xs : List Id) (x : Id) → In x xs ⊎ (In x xs → ⊥)
In_or_not xs x = elim (test (has xs x)) [
  | yes_is e ↦ inl (has-In xs x e)
  | no_is e ↦ inr (λ q. let d = In-has xs x q in cc)
]

Names_or_not : (k : Kind) (x : Id) → Names k x ⊎ (Names k x → ⊥)
Names_or_not (Create members) x = In_or_not members x
Names_or_not Update x = inr (λ h. h)
Names_or_not (Remove y) x = inr (λ h. h)
Names_or_not (Add y) x = same_or_not y x
Names_or_not (Ack o took) x = inr (λ h. h)
Names_or_not (AddAck o) x = inr (λ h. h)
Names_or_not Text x = inr (λ h. h)

-- a set names an id, or not
pub Named_or_not : (p : History) (x : Id) → Named p x ⊎ (Named p x → ⊥)
Named_or_not [] x = inr (λ n. In-nothing n.there_is)
Named_or_not (m ∷ p) x = elim (Names_or_not m.kind x) [
  | inl k ↦ inl (record { by = m; there_is = here; names = k })
  | inr miss ↦ elim (Named_or_not p x) [
    | inl n ↦ inl (record { by = n.by; there_is = there n.there_is; names = n.names })
    | inr none ↦ inr (λ n. elim (In-cases n.there_is) [
      | inl e ↦ miss (subst (λ z. Names z.kind x) e n.names)
      | inr j ↦ none (record { by = n.by; there_is = j; names = n.names })
    ])
  ]
]

pub Named-within : {p q : History} {x : Id} → Within p q → Named p x → Named q x
Named-within w n = record { by = n.by; there_is = w.each n.there_is; names = n.names }

-- a message that is named once in a larger set is so in a smaller one
pub NamedOnce-within : {p q : History} → Within p q → NamedOnce q → NamedOnce p
NamedOnce-within w n = record { once = λ a b x i j d e. n.once a b x (w.each i) (w.each j) d e }

-- a rule tells of each id
pub member_or_not : (rule : History → List Id) (p : History) (x : Id) → In x (rule p) ⊎ (In x (rule p) → ⊥)
member_or_not rule p x = In_or_not (rule p) x

-- each message has each create in its past, or is it
pub record Rooted (h : History) : Type 0 where
  pub root : (c m : Message) (members : List Id) → In c h → c.kind ≡ Create members → In m h → In c (with_past h m)

-- each message is valid over its past
pub record EachValid (rule : History → List Id) (inviter : Id → Option Id) (h : History) : Type 0 where
  pub history : IsHistory h
  pub valid : (m : Message) → In m h → IsValid rule inviter (past h m.predecessors) m

-- p is the last message of its sender in the past of m
pub record LastOf (h : History) (m p : Message) : Type 0 where
  pub there_is : In p (past h m.predecessors)
  pub sender : p.sender ≡ m.sender
  pub last : (a : Message) → In a (past h m.predecessors) → a.sender ≡ m.sender → In a (with_past h p)

-- m hands its sender's ratchet to x
pub data Hands (h : History) (m : Message) (x : Id) : Type 0 where
  by_add : m.kind ≡ Add x → Hands h m x
  by_answer : (o : Message) → In o (past h m.predecessors) → m.kind ≡ AddAck o.id → o.kind ≡ Add x → Hands h m x

module _ (rule : History → List Id) (law : IsMembershipRule rule) (inviter : Id → Option Id) (h : History) (g : IsHistory h) (once : NamedOnce h) (rooted : Rooted h) (each : EachValid rule inviter h) where
  -- what stands in the past of a message with its past stands there
  pub deeper : {m a b : Message} → In a (with_past h m) → In b (past h a.predecessors) → In b (past h m.predecessors)
  deeper {m} {a} {b} i j = elim (In-cases i) [
    | inl e ↦ subst (λ z. In b (past h z.predecessors)) e j
    | inr k ↦ past-trans h g m.predecessors k j
  ]

  pub deeper_with : {m a b : Message} → In a (with_past h m) → In b (with_past h a) → In b (with_past h m)
  deeper_with {m} {a} {b} i j = elim (In-cases j) [
    | inl e ↦ subst (λ z. In z (with_past h m)) (sym e) i
    | inr k ↦ there (deeper i k)
  ]

  pub into : {m : Message} {a : Message} → In a (with_past h m) → In m h → In a h
  into {m} i j = elim (In-cases i) [ inl e ↦ subst (λ z. In z h) (sym e) j | inr k ↦ past-within h m.predecessors k ]

  -- who sees a message is named in its set
  pub seen_named : {m : Message} {x : Id} → InView rule h m x → Named (with_past h m) x
  seen_named {m} {x} v = law.named (with_past h m) x v

  -- who sees a message, and is named in the set of an earlier one, sees that
  pub seen_before : {m a : Message} {x : Id} → In m h → In a (with_past h m) → Named (with_past h a) x → InView rule h m x → InView rule h a x
  seen_before {m} {a} {x} i j n v = elim (In_or_not (rule (with_past h a)) x) [
    | inl k ↦ k
    | inr out ↦ absurd (law.out_stays_out (with_past h a) (with_past h m) x (with_past-history h g (into j i)) (with_past-history h g i)
        (NamedOnce-within (record { each = λ k. into k i }) once) (record { each = deeper_with j }) n out v)
  ]

  -- a message that is not the opening one has its sender named in its past, and so the one message that names it
  pub sender_named : {m b : Message} → In m h → In b h → Names b.kind m.sender → In b (with_past h m)
  sender_named {m} {b} i j n = elim (each.valid m i) [
    | inl o ↦ In-head (past h m.predecessors) (once.once b m m.sender j i n (subst (λ k. Names k m.sender) (sym o.creates) o.among))
    | inr v ↦ there (subst (λ z. In z (past h m.predecessors)) (once.once v.named.by b m.sender (past-within h m.predecessors v.named.there_is) j v.named.names n) v.named.there_is)
  ]

  -- who answers an operation has it in its past, and the answered one stands alone
  pub answered : {m a : Message} → In m h → In a h → Answers m.kind a.id → AnswersOne (past h m.predecessors) m.sender a.id
  answered {m} {a} i j n = elim (each.valid m i) [
    | inl o ↦ absurd (subst (λ k. Answers k a.id) o.creates n)
    | inr v ↦ by_kind m.kind v.in_turn n
  ]
    where
      by_kind : (k : Kind) → IsInTurn (past h m.predecessors) m.sender k → Answers k a.id → AnswersOne (past h m.predecessors) m.sender a.id
      by_kind (Create members) t n = absurd n
      by_kind Update t n = absurd n
      by_kind (Remove y) t n = absurd n
      by_kind (Add y) t n = absurd n
      by_kind (Ack o took) t n = subst (λ z. AnswersOne (past h m.predecessors) m.sender z) n t
      by_kind (AddAck o) t n = subst (λ z. AnswersOne (past h m.predecessors) m.sender z) n t
      by_kind Text t n = absurd n

  pub answered_stands : {m a : Message} → In m h → In a h → Answers m.kind a.id → In a (past h m.predecessors)
  answered_stands {m} {a} i j n =
      let one : AnswersOne (past h m.predecessors) m.sender a.id = answered i j n in
      subst (λ z. In z (past h m.predecessors)) (same-message h g (past-within h m.predecessors one.waits.there_is) j one.has_id) one.waits.there_is

  -- an operation by others, new since the sender's last message, is unanswered
  pub new_is_unanswered : {m p a : Message} → In m h → LastOf h m p → In a (past h m.predecessors) → (In a (with_past h p) → ⊥) → IsOperation a.kind
      → IsUnanswered (past h m.predecessors) m.sender a
  new_is_unanswered {m} {p} {a} i l j fresh op = record {
    there_is = j;
    operation = op;
    others = λ e. fresh (l.last a j e);
    unmet = λ b k e n. fresh (there (deeper (l.last b k e) (answered_stands (past-within h m.predecessors k) (past-within h m.predecessors j) n)));
    counts = λ b k e. inr (λ x. fresh (there (deeper
        (subst (λ s. (Names b.kind s → In b (with_past h p))) l.sender (sender_named (past-within h m.predecessors l.there_is) (past-within h m.predecessors k)) (subst (λ z. Names z m.sender) (sym e) refl))
        (past-inside h g m.predecessors b.predecessors x))));
  }

  -- no message but the opening one is a create
  pub create_is_old : {m p a : Message} {members : List Id} → In m h → LastOf h m p → In a (past h m.predecessors) → a.kind ≡ Create members → In a (with_past h p)
  create_is_old {m} {p} {a} {members} i l j e = rooted.root a p members (past-within h m.predecessors j) e (past-within h m.predecessors l.there_is)

  -- the answered operation of a valid message, by the kind of the message
  pub handed : {m a : Message} {x : Id} → In m h → In a (past h m.predecessors) → IsUnanswered (past h m.predecessors) m.sender a → a.kind ≡ Add x → x ≢ m.sender → Hands h m x
  handed {m} {a} {x} i j u e ne = elim (each.valid m i) [
    | inl o ↦ absurd (past-of_nothing h (subst (λ w. In a (past h w)) o.first j))
    | inr v ↦ by_kind m.kind refl v.in_turn v.suits
  ]
    where
      by_kind : (k : Kind) → m.kind ≡ k → IsInTurn (past h m.predecessors) m.sender k → MeetsKind rule inviter (past h m.predecessors) m.sender k → Hands h m x
      by_kind (Create members) q t s = absurd s
      by_kind Update q t s = absurd (t a u)
      by_kind (Remove y) q t s = absurd (t a u)
      by_kind (Add y) q t s = absurd (t a u)
      by_kind (Ack o took) q t s = elim (s a j (t.only a u)) [
        | inl seeded ↦ absurd (subst IsSeeded e seeded.0)
        | inr mine ↦ absurd (ne (let f : Add x ≡ Add m.sender = sym e ∙ mine in cc))
      ]
      by_kind (AddAck o) q t s = by_answer a j (q ∙ ap AddAck (sym (t.only a u))) e
      by_kind Text q t s = absurd (t a u)

  -- the first message of a sender that has x in view is an add of x, or an answer that hands x the ratchet, or the sender's very first
  pub first_view : {m p : Message} {x : Id} → In m h → LastOf h m p → x ≢ m.sender → InView rule h m x → InView rule h p x ⊎ Hands h m x
  first_view {m} {p} {x} i l ne v = elim (Named_or_not (with_past h p) x) [
    | inl n ↦ inl (seen_before i (there l.there_is) n v)
    | inr new ↦ inr (elim (In-cases n0.there_is) [
      | inl e ↦ at_head m.kind refl (subst (λ z. Names z.kind x) e n0.names)
      | inr j ↦ below n0.by.kind refl n0.names j (λ k. new (record { by = n0.by; there_is = k; names = n0.names }))
    ])
  ]
    where
      n0 : Named (with_past h m) x
      n0 = seen_named v

      at_head : (k : Kind) → m.kind ≡ k → Names k x → Hands h m x
      at_head (Create members) q n = elim (each.valid m i) [
        | inl o ↦ absurd (past-of_nothing h (subst (λ w. In p (past h w)) o.first l.there_is))
        | inr s ↦ absurd (subst (λ k. MeetsKind rule inviter (past h m.predecessors) m.sender k) q s.suits)
      ]
      at_head Update q n = absurd n
      at_head (Remove y) q n = absurd n
      at_head (Add y) q n = by_add (q ∙ ap Add n)
      at_head (Ack o took) q n = absurd n
      at_head (AddAck o) q n = absurd n
      at_head Text q n = absurd n

      below : (k : Kind) → n0.by.kind ≡ k → Names n0.by.kind x → In n0.by (past h m.predecessors) → (In n0.by (with_past h p) → ⊥) → Hands h m x
      below (Create members) q n j fresh = absurd (fresh (create_is_old i l j q))
      below Update q n j fresh = absurd (subst (λ k. Names k x) q n)
      below (Remove y) q n j fresh = absurd (subst (λ k. Names k x) q n)
      below (Add y) q n j fresh =
          let e : n0.by.kind ≡ Add x = q ∙ ap Add (subst (λ k. Names k x) q n) in
          handed i j (new_is_unanswered i l j fresh (subst IsOperation (sym q) tt)) e ne
      below (Ack o took) q n j fresh = absurd (subst (λ k. Names k x) q n)
      below (AddAck o) q n j fresh = absurd (subst (λ k. Names k x) q n)
      below Text q n j fresh = absurd (subst (λ k. Names k x) q n)

  -- the add that brought the sender of an answer in is unanswered in the past of each of its earlier messages
  pub brought_waits : {m o b : Message} → In m h → In o (past h m.predecessors) → o.kind ≡ Add m.sender → Answers m.kind o.id → In b (past h m.predecessors) → b.sender ≡ m.sender
      → IsUnanswered (past h b.predecessors) b.sender o
  brought_waits {m} {o} {b} i j e n k s =
      let one : AnswersOne (past h m.predecessors) m.sender o.id = answered i (past-within h m.predecessors j) n in
      let same : one.operation ≡ o = same-message h g (past-within h m.predecessors one.waits.there_is) (past-within h m.predecessors j) one.has_id in
      let waits : IsUnanswered (past h m.predecessors) m.sender o = subst (λ z. IsUnanswered (past h m.predecessors) m.sender z) same one.waits in
      let names_b : Names o.kind b.sender = subst (λ t. Names t b.sender) (sym e) (sym s) in
      record {
        there_is = elim (In-cases (sender_named (past-within h m.predecessors k) (past-within h m.predecessors j) names_b)) [
          | inl q ↦ absurd (waits.others (ap (λ z. z.sender) q ∙ s))
          | inr q ↦ q
        ];
        operation = waits.operation;
        others = λ q. waits.others (q ∙ s);
        unmet = λ a l q r. waits.unmet a (deeper {m = m} (there k) l) (q ∙ s) r;
        counts = λ a l q. inl (once.once o a b.sender (past-within h m.predecessors j) (past-within h b.predecessors l) names_b (subst (λ t. Names t b.sender) (sym q) refl));
      }

  -- who sees the answer to the add of its sender sees the add
  pub answer_of_add : {m o : Message} {x : Id} → In m h → In o (past h m.predecessors) → o.kind ≡ Add m.sender → Answers m.kind o.id → InView rule h m x → InView rule h o x
  answer_of_add {m} {o} {x} i j e n v = elim (Named_or_not (with_past h o) x) [
    | inl q ↦ seen_before i (there j) q v
    | inr new ↦ elim (In-cases n0.there_is) [
      | inl q ↦ absurd (answers_names_not m.kind n (subst (λ z. Names z.kind x) q n0.names))
      | inr k ↦ elim (same_or_not n0.by.sender m.sender) [
        | inl s ↦ absurd (own (brought_waits i j e n k s) (each.valid n0.by (past-within h m.predecessors k)) n0.by.kind refl n0.names (λ q. new (record { by = n0.by; there_is = q; names = n0.names })) (past-within h m.predecessors k))
        | inr d ↦ absurd (others n0.by k (λ q. new (record { by = n0.by; there_is = q; names = n0.names })) n0.by.kind refl n0.names d)
      ]
    ]
  ]
    where
      n0 : Named (with_past h m) x
      n0 = seen_named v

      answers_names_not : (k : Kind) → Answers k o.id → Names k x → ⊥
      answers_names_not (Create members) p q = p
      answers_names_not Update p q = p
      answers_names_not (Remove y) p q = p
      answers_names_not (Add y) p q = p
      answers_names_not (Ack a took) p q = q
      answers_names_not (AddAck a) p q = q
      answers_names_not Text p q = p

      own : {c : Message} → IsUnanswered (past h c.predecessors) c.sender o → IsValid rule inviter (past h c.predecessors) c → (k : Kind) → c.kind ≡ k → Names c.kind x → (In c (with_past h o) → ⊥) → In c h → ⊥
      own {c} w v (Create members) q r fresh z = fresh (rooted.root c o members z q (past-within h m.predecessors j))
      own {c} w v Update q r fresh z = subst (λ k. Names k x) q r
      own {c} w v (Remove y) q r fresh z = subst (λ k. Names k x) q r
      own {c} w v (Add y) q r fresh z = elim v [
        | inl p ↦ let f : Add y ≡ Create p.members = sym q ∙ p.creates in cc
        | inr p ↦ (subst (λ k. IsInTurn (past h c.predecessors) c.sender k) q p.in_turn) o w
      ]
      own {c} w v (Ack a took) q r fresh z = subst (λ k. Names k x) q r
      own {c} w v (AddAck a) q r fresh z = subst (λ k. Names k x) q r
      own {c} w v Text q r fresh z = subst (λ k. Names k x) q r

      others : (c : Message) → In c (past h m.predecessors) → (In c (with_past h o) → ⊥) → (k : Kind) → c.kind ≡ k → Names c.kind x → c.sender ≢ m.sender → ⊥
      others c k fresh (Create members) q r d = fresh (rooted.root c o members (past-within h m.predecessors k) q (past-within h m.predecessors j))
      others c k fresh Update q r d = subst (λ t. Names t x) q r
      others c k fresh (Remove y) q r d = subst (λ t. Names t x) q r
      others c k fresh (Ack a took) q r d = subst (λ t. Names t x) q r
      others c k fresh (AddAck a) q r d = subst (λ t. Names t x) q r
      others c k fresh Text q r d = subst (λ t. Names t x) q r
      others c k fresh (Add y) q r d =
          let waits : IsUnanswered (past h m.predecessors) m.sender c = record {
            there_is = k;
            operation = subst IsOperation (sym q) tt;
            others = d;
            unmet = λ b l s a.
                let w : IsUnanswered (past h b.predecessors) b.sender o = brought_waits i j e n l s in
                let one : AnswersOne (past h b.predecessors) b.sender c.id = answered (past-within h m.predecessors l) (past-within h m.predecessors k) a in
                fresh (In-head _ (same-message h g (past-within h m.predecessors k) (past-within h m.predecessors j) (sym (one.only o w))));
            counts = λ b l s. inr (λ z. fresh (there (subst (λ t. In c (past h t.predecessors))
                (once.once b o m.sender (past-within h m.predecessors l) (past-within h m.predecessors j) (subst (λ t. Names t m.sender) (sym s) refl) (subst (λ t. Names t m.sender) (sym e) refl))
                (past-inside h g m.predecessors b.predecessors z))));
          } in
          let one : AnswersOne (past h m.predecessors) m.sender o.id = answered i (past-within h m.predecessors j) n in
          fresh (In-head _ (same-message h g (past-within h m.predecessors k) (past-within h m.predecessors j) (one.only c waits)))
