-- Tests of validity and of addressees.
use Rattle.std.proofs.Common.{◌≡◌, ◌+◌, Bool, true, false, inl, inr, List, [], ◌∷◌, Option, Some, None, IsSome, refl, sym, subst, ap, length, nat_eq, nat_lt}
use Rattle.std.specs.Prelude.{is_some}
use Rattle.std.specs.Str.{bytes_eq}
use Rattle.group_model.specs.Sets.{Id, In, has}
use Rattle.group_model.specs.Messages.{Kind, Create, Update, Remove, Add, Ack, AddAck, Text, Message, History, past, with_past}
use Rattle.group_model.specs.Membership.{Names, Named, IsMembershipRule, InView, IsRecipient, IsForwardedTo, IsHandedTo, IsAddressee, AreAddressees, ids_named}
use Rattle.group_model.specs.Validity.{Answers, count_of, HasStepped, MayAck, MeetsKind, IsUnanswered, AnswersOne, AnswersNone, IsInTurn, Opens, GoesOn, MayFollow}
use Rattle.group_model.proofs.ListFacts.{In-cases, some_same}
use Rattle.group_model.proofs.Pasts.{past-within}
use Rattle.group_model.proofs.RemoveWins.{ids_named-Named, Named-ids_named}
use Rattle.group_model.proofs.Says.{Says, both, either, opposite, any, each, says-other, says-and, says-or, says-not, says-if, says-any, says-each, says-same, says-has, says-yes, says-no, both-true, either-true, any-true, each-true}
use Rattle.group_model.proofs.Verdicts.{says-equal, says-less, ascending, says-ascending, is_operation, says-operation, is_seeded, says-seeded, steps, says-steps, answers, says-answers, adds, says-adds, adds_another, says-adds_another, are_heads, heads-where}

-- messages
abbrev pub ids_eq : List Id → List Id → Bool
ids_eq [] [] = true
ids_eq [] (j ∷ b) = false
ids_eq (i ∷ a) [] = false
ids_eq (i ∷ a) (j ∷ b) = both (bytes_eq i j) (ids_eq a b)

pub says-ids : (a b : List Id) → Says (ids_eq a b) (a ≡ b)
says-ids [] [] = says-yes refl
says-ids [] (j ∷ b) = says-no (λ p. cc)
says-ids (i ∷ a) [] = says-no (λ p. cc)
says-ids (i ∷ a) (j ∷ b) = says-other (λ p. let e = p.0 in let f = p.1 in cc) (λ e. (cc, cc)) (says-and (says-same i j) (says-ids a b))

abbrev pub bool_eq : Bool → Bool → Bool
bool_eq true b = b
bool_eq false b = opposite b

same-bool : (a b : Bool) → bool_eq a b ≡ true → a ≡ b
same-bool true true e = refl
same-bool true false e = cc
same-bool false true e = cc
same-bool false false e = refl

abbrev pub kind_eq : Kind → Kind → Bool
kind_eq (Create a) (Create b) = ids_eq a b
kind_eq Update Update = true
kind_eq (Remove y) (Remove z) = bytes_eq y z
kind_eq (Add y) (Add z) = bytes_eq y z
kind_eq (Ack o t) (Ack q u) = both (bytes_eq o q) (bool_eq t u)
kind_eq (AddAck o) (AddAck q) = bytes_eq o q
kind_eq Text Text = true
kind_eq k l = false

same-kind : (k l : Kind) → kind_eq k l ≡ true → k ≡ l
same-kind (Create a) (Create b) e = ap Create ((says-ids a b).holds e)
same-kind Update Update e = refl
same-kind (Remove y) (Remove z) e = ap Remove ((says-same y z).holds e)
same-kind (Add y) (Add z) e = ap Add ((says-same y z).holds e)
same-kind (Ack o t) (Ack q u) e =
    let p = (says-and (says-same o q) (record { holds = λ (d : bool_eq t u ≡ true). same-bool t u d; told = λ (d : t ≡ u). told_bool t u d })).holds e in
    let f = p.0 in let g = p.1 in cc
  where
    told_bool : (a b : Bool) → a ≡ b → bool_eq a b ≡ true
    told_bool true true d = refl
    told_bool true false d = cc
    told_bool false true d = cc
    told_bool false false d = refl
same-kind (AddAck o) (AddAck q) e = ap AddAck ((says-same o q).holds e)
same-kind Text Text e = refl
same-kind k l e = cc

abbrev pub message_eq : Message → Message → Bool
message_eq a b = both (bytes_eq a.id b.id) (both (nat_eq a.set b.set) (both (bytes_eq a.group b.group) (both (bytes_eq a.sender b.sender)
    (both (nat_eq a.seq b.seq) (both (kind_eq a.kind b.kind)
    (both (ids_eq a.predecessors b.predecessors) (bytes_eq a.body b.body)))))))

pub same-message_eq : (a b : Message) → message_eq a b ≡ true → a ≡ b
same-message_eq a b e =
    let k = both-true (bytes_eq a.id b.id) _ e in
    let l = both-true (nat_eq a.set b.set) _ k.1 in
    let m = both-true (bytes_eq a.group b.group) _ l.1 in
    let n = both-true (bytes_eq a.sender b.sender) _ m.1 in
    let o = both-true (nat_eq a.seq b.seq) _ n.1 in
    let p = both-true (kind_eq a.kind b.kind) _ o.1 in
    let q = both-true (ids_eq a.predecessors b.predecessors) _ p.1 in
    same-fields a b ((says-same a.id b.id).holds k.0) ((says-equal a.set b.set).holds l.0) ((says-same a.group b.group).holds m.0)
    ((says-same a.sender b.sender).holds n.0) ((says-equal a.seq b.seq).holds o.0) (same-kind a.kind b.kind p.0) ((says-ids a.predecessors b.predecessors).holds q.0)
    ((says-same a.body b.body).holds q.1)
  where
    same-fields : (a b : Message) → a.id ≡ b.id → a.set ≡ b.set → a.group ≡ b.group → a.sender ≡ b.sender → a.seq ≡ b.seq → a.kind ≡ b.kind
        → a.predecessors ≡ b.predecessors → a.body ≡ b.body → a ≡ b
    same-fields a b i s g e n k p d = λ j. record {
      id = i j;
      set = s j;
      group = g j;
      sender = e j;
      seq = n j;
      kind = k j;
      predecessors = p j;
      body = d j;
    }

-- the inviter that a card names, where it names one
abbrev pub is_for : Option Id → Id → Bool
is_for None s = false
is_for (Some i) s = bytes_eq i s

says-for : (o : Option Id) (s : Id) → Says (is_for o s) (o ≡ Some s)
says-for None s = says-no (λ p. cc)
says-for (Some i) s = says-other (λ e. ap Some e) (λ e. some_same e) (says-same i s)

says-some : (o : Option Id) → Says (is_some o) (IsSome o)
says-some o = record { holds = λ e. e; told = λ e. e }

-- who is named
abbrev pub is_named : History → Id → Bool
is_named p x = has (ids_named p) x

pub says-named : (p : History) (x : Id) → Says (is_named p x) (Named p x)
says-named p x = says-other (ids_named-Named p x) (Named-ids_named p x) (says-has (ids_named p) x)

abbrev pub has_stepped : History → Id → Bool
has_stepped p s = any (λ (a : Message). both (bytes_eq a.sender s) (steps a.kind)) p

pub says-stepped : (p : History) (s : Id) → Says (has_stepped p s) (HasStepped p s)
says-stepped p s = says-other
    (λ k. record { by = k.0; there_is = k.1; own = k.2.0; steps = k.2.1 })
    (λ k. (k.by, k.there_is, (k.own, k.steps)))
    (says-any (λ (a : Message). says-and (says-same a.sender s) (says-steps a.kind)) p)

-- nothing unanswered
abbrev pub has_answered : History → Id → Id → Bool
has_answered p s i = any (λ (a : Message). both (bytes_eq a.sender s) (answers a.kind i)) p

says-answered : (p : History) (s i : Id) → Says (has_answered p s i) ((a : Message) × In a p × ((a.sender ≡ s) × Answers a.kind i))
says-answered p s i = says-any (λ (a : Message). says-and (says-same a.sender s) (says-answers a.kind i)) p

-- an add brought s in after the operation
abbrev pub is_older : History → Id → Message → Bool
is_older p s o = any (λ (b : Message). both (adds b.kind s) (both (opposite (bytes_eq o.id b.id)) (any (λ (a : Message). message_eq a o) (past p b.predecessors)))) p

-- the operation does not wait for s
abbrev pub is_settled : History → Id → Message → Bool
is_settled p s o = either (opposite (is_operation o.kind)) (either (bytes_eq o.sender s) (either (has_answered p s o.id) (is_older p s o)))

settled-where : (p : History) (s : Id) (o : Message) → is_settled p s o ≡ true → IsUnanswered p s o → ⊥
settled-where p s o e u = elim (either-true _ _ e) [
  | inl a ↦ (says-not (says-operation o.kind)).holds a u.operation
  | inr f ↦ elim (either-true _ _ f) [
    | inl a ↦ u.others ((says-same o.sender s).holds a)
    | inr g ↦ elim (either-true _ _ g) [
      | inl a ↦ let k = (says-answered p s o.id).holds a in u.unmet k.0 k.1 k.2.0 k.2.1
      | inr a ↦ older (any-true _ p a)
    ]
  ]
]
  where
    older : (b : Message) × In b p × (both (adds b.kind s) (both (opposite (bytes_eq o.id b.id)) (any (λ (a : Message). message_eq a o) (past p b.predecessors))) ≡ true) → ⊥
    older k =
        let l = both-true (adds k.0.kind s) _ k.2 in
        let m = both-true (opposite (bytes_eq o.id k.0.id)) _ l.1 in
        let n = any-true (λ (a : Message). message_eq a o) (past p k.0.predecessors) m.1 in
        elim (u.counts k.0 k.1 ((says-adds k.0.kind s).holds l.0)) [
          | inl d ↦ (says-not (says-same o.id k.0.id)).holds m.0 (ap (λ (z : Message). z.id) d)
          | inr f ↦ f (subst (λ z. In z (past p k.0.predecessors)) (same-message_eq n.0 o n.2) n.1)
        ]

-- the operation waits for s
abbrev pub is_waiting : History → Id → Message → Bool
is_waiting p s o = both (is_operation o.kind) (both (opposite (bytes_eq o.sender s)) (both (opposite (has_answered p s o.id))
    (each (λ (b : Message). either (opposite (adds b.kind s)) (either (message_eq o b) (opposite (any (λ (a : Message). bytes_eq a.id o.id) (past p b.predecessors))))) p)))

waiting-where : (p : History) (s : Id) (o : Message) → In o p → is_waiting p s o ≡ true → IsUnanswered p s o
waiting-where p s o i e =
    let k = both-true (is_operation o.kind) _ e in
    let l = both-true (opposite (bytes_eq o.sender s)) _ k.1 in
    let m = both-true (opposite (has_answered p s o.id)) _ l.1 in
    record {
      there_is = i;
      operation = (says-operation o.kind).holds k.0;
      others = (says-not (says-same o.sender s)).holds l.0;
      unmet = λ a j d n. (says-not (says-answered p s o.id)).holds m.0 (a, j, (d, n));
      counts = λ b j d. elim (either-true _ _ (each-true _ p m.1 b j)) [
        | inl n ↦ absurd ((says-not (says-adds b.kind s)).holds n d)
        | inr f ↦ elim (either-true _ _ f) [
          | inl g ↦ inl (same-message_eq o b g)
          | inr g ↦ inr (λ q. (says-not (says-any (λ (a : Message). says-same a.id o.id) (past p b.predecessors))).holds g (o, q, refl))
        ]
      ];
    }

abbrev pub answers_none : History → Id → Bool
answers_none p s = each (λ (o : Message). is_settled p s o) p

none-where : (p : History) (s : Id) → answers_none p s ≡ true → AnswersNone p s
none-where p s e o u = settled-where p s o (each-true (λ (o : Message). is_settled p s o) p e o u.there_is) u

abbrev pub answers_one : History → Id → Id → Bool
answers_one p s i = both (any (λ (o : Message). both (bytes_eq o.id i) (is_waiting p s o)) p)
    (each (λ (o : Message). either (bytes_eq o.id i) (is_settled p s o)) p)

one-where : (p : History) (s i : Id) → answers_one p s i ≡ true → AnswersOne p s i
one-where p s i e =
    let k = both-true (any (λ (o : Message). both (bytes_eq o.id i) (is_waiting p s o)) p) _ e in
    let l = any-true (λ (o : Message). both (bytes_eq o.id i) (is_waiting p s o)) p k.0 in
    let m = both-true (bytes_eq l.0.id i) _ l.2 in
    record {
      operation = l.0;
      waits = waiting-where p s l.0 l.1 m.1;
      has_id = (says-same l.0.id i).holds m.0;
      only = λ o u. elim (either-true (bytes_eq o.id i) (is_settled p s o) (each-true (λ (o : Message). either (bytes_eq o.id i) (is_settled p s o)) p k.1 o u.there_is)) [
        | inl d ↦ (says-same o.id i).holds d
        | inr d ↦ absurd (settled-where p s o d u)
      ];
    }

abbrev pub is_in_turn : History → Id → Kind → Bool
is_in_turn p s (Create members) = answers_none p s
is_in_turn p s Update = answers_none p s
is_in_turn p s (Remove y) = answers_none p s
is_in_turn p s (Add y) = answers_none p s
is_in_turn p s (Ack o took) = answers_one p s o
is_in_turn p s (AddAck o) = answers_one p s o
is_in_turn p s Text = answers_none p s

in_turn-where : (p : History) (s : Id) (k : Kind) → is_in_turn p s k ≡ true → IsInTurn p s k
in_turn-where p s (Create members) e = none-where p s e
in_turn-where p s Update e = none-where p s e
in_turn-where p s (Remove y) e = none-where p s e
in_turn-where p s (Add y) e = none-where p s e
in_turn-where p s (Ack o took) e = one-where p s o e
in_turn-where p s (AddAck o) e = one-where p s o e
in_turn-where p s Text e = none-where p s e

module _ (rule : History → List Id) where
  abbrev pub is_in_view : History → Message → Id → Bool
  is_in_view h m x = has (rule (with_past h m)) x

  pub says-view : (h : History) (m : Message) (x : Id) → Says (is_in_view h m x) (InView rule h m x)
  says-view h m x = says-has (rule (with_past h m)) x

  abbrev pub is_recipient : History → Message → Id → Bool
  is_recipient h m y = both (is_in_view h m y) (opposite (bytes_eq y m.sender))

  says-recipient : (h : History) (m : Message) (y : Id) → Says (is_recipient h m y) (IsRecipient rule h m y)
  says-recipient h m y = says-other (λ p. record { in_view = p.0; other = p.1 }) (λ r. (r.in_view, r.other))
      (says-and (says-view h m y) (says-not (says-same y m.sender)))

  -- conditions of the kinds
  abbrev pub may_ack : History → Id → Id → Bool → Bool
  may_ack p s i took = each (λ (o : Message). either (opposite (bytes_eq o.id i))
      (either (both (is_seeded o.kind) (either (opposite took) (is_recipient p o s))) (adds o.kind s))) p

  ack-where : (p : History) (s i : Id) (took : Bool) → may_ack p s i took ≡ true → MayAck rule p s i took
  ack-where p s i took e o j d =
      let k = (says-if (says-same o.id i) (says-or (says-and (says-seeded o.kind) (says-if (says-true took) (says-recipient p o s))) (says-adds o.kind s))).holds
      (each-true (λ (o : Message). either (opposite (bytes_eq o.id i))
      (either (both (is_seeded o.kind) (either (opposite took) (is_recipient p o s))) (adds o.kind s))) p e o j) d in
      elim k [
        | inl q ↦ inl (q.0, λ t. let r = q.1 t in (r.in_view, r.other))
        | inr q ↦ inr q
      ]
    where
      says-true : (b : Bool) → Says b (b ≡ true)
      says-true b = record { holds = λ e. e; told = λ e. e }

  abbrev pub may_add_ack : History → Id → Id → Bool
  may_add_ack p s i = each (λ (o : Message). either (opposite (bytes_eq o.id i)) (adds_another o.kind s)) p

  abbrev pub meets_kind : (inviter : Id → Option Id) → History → Id → Kind → Bool
  meets_kind inviter p s (Create members) = false
  meets_kind inviter p s Update = true
  meets_kind inviter p s (Remove y) = both (has (rule p) y) (opposite (bytes_eq y s))
  meets_kind inviter p s (Add y) = both (opposite (is_named p y)) (both (is_for (inviter y) s) (nat_lt (length (ids_named p)) 32))
  meets_kind inviter p s (Ack i took) = may_ack p s i took
  meets_kind inviter p s (AddAck i) = may_add_ack p s i
  meets_kind inviter p s Text = has_stepped p s

  kind-where : (inviter : Id → Option Id) (p : History) (s : Id) (k : Kind) → meets_kind inviter p s k ≡ true → MeetsKind rule inviter p s k
  kind-where inviter p s (Create members) e = cc
  kind-where inviter p s Update e = tt
  kind-where inviter p s (Remove y) e = (says-and (says-has (rule p) y) (says-not (says-same y s))).holds e
  kind-where inviter p s (Add y) e =
      let k = (says-and (says-not (says-named p y)) (says-and (says-for (inviter y) s) (says-less (length (ids_named p)) 32))).holds e in
      (k.0, k.1.0, k.1.1)
  kind-where inviter p s (Ack i took) e = ack-where p s i took e
  kind-where inviter p s (AddAck i) e = λ o j d. (says-if (says-same o.id i) (says-adds_another o.kind s)).holds
      (each-true (λ (o : Message). either (opposite (bytes_eq o.id i)) (adds_another o.kind s)) p e o j) d
  kind-where inviter p s Text e = (says-stepped p s).holds e

  -- what opens a history
  abbrev pub opens_by : (inviter : Id → Option Id) → Message → Kind → Bool
  opens_by inviter m (Create members) = both (ids_eq m.predecessors []) (both (nat_eq m.seq 1) (both (has members m.sender)
      (each (λ y. both (is_some (inviter y)) (either (bytes_eq y m.sender) (is_for (inviter y) m.sender))) members)))
  opens_by inviter m Update = false
  opens_by inviter m (Remove y) = false
  opens_by inviter m (Add y) = false
  opens_by inviter m (Ack i took) = false
  opens_by inviter m (AddAck i) = false
  opens_by inviter m Text = false

  opens-where : (inviter : Id → Option Id) (m : Message) (k : Kind) → m.kind ≡ k → opens_by inviter m k ≡ true → Opens inviter m
  opens-where inviter m (Create members) d e =
      let k = (says-and (says-ids m.predecessors []) (says-and (says-equal m.seq 1) (says-and (says-has members m.sender)
      (says-each (λ y. says-and (says-some (inviter y)) (says-or (says-same y m.sender) (says-for (inviter y) m.sender))) members)))).holds e in
      record {
        members = members;
        creates = d;
        first = k.0;
        number = k.1.0;
        among = k.1.1.0;
        invited = λ y i. let t = k.1.1.1 y i in (t.0, λ n. elim t.1 [ inl q ↦ absurd (n q) | inr q ↦ q ]);
      }
  opens-where inviter m Update d e = cc
  opens-where inviter m (Remove y) d e = cc
  opens-where inviter m (Add y) d e = cc
  opens-where inviter m (Ack i took) d e = cc
  opens-where inviter m (AddAck i) d e = cc
  opens-where inviter m Text d e = cc

  -- what goes on
  abbrev pub goes_on : (inviter : Id → Option Id) → History → Message → Bool
  goes_on inviter p m = both (is_named p m.sender) (both (has (rule p) m.sender) (both (nat_eq m.seq (count_of m.sender p + 1))
      (both (meets_kind inviter p m.sender m.kind) (both (is_in_turn p m.sender m.kind) (are_heads p m.predecessors)))))

  goes_on-where : (inviter : Id → Option Id) (p : History) (m : Message) → goes_on inviter p m ≡ true → GoesOn rule inviter p m
  goes_on-where inviter p m e =
      let a = both-true (is_named p m.sender) _ e in
      let b = both-true (has (rule p) m.sender) _ a.1 in
      let c = both-true (nat_eq m.seq (count_of m.sender p + 1)) _ b.1 in
      let d = both-true (meets_kind inviter p m.sender m.kind) _ c.1 in
      let f = both-true (is_in_turn p m.sender m.kind) _ d.1 in
      record {
        named = (says-named p m.sender).holds a.0;
        member = (says-has (rule p) m.sender).holds b.0;
        next = (says-equal m.seq (count_of m.sender p + 1)).holds c.0;
        suits = kind-where inviter p m.sender m.kind d.0;
        in_turn = in_turn-where p m.sender m.kind f.0;
        heads = heads-where p m.predecessors f.1;
      }

  abbrev pub may_follow : (inviter : Id → Option Id) → History → Message → Bool
  may_follow inviter [] m = opens_by inviter m m.kind
  may_follow inviter (l ∷ older) m = goes_on inviter (past (l ∷ older) m.predecessors) m

  pub follow-where : (inviter : Id → Option Id) (h : History) (m : Message) → may_follow inviter h m ≡ true → MayFollow rule inviter h m
  follow-where inviter [] m e = opens-where inviter m m.kind refl e
  follow-where inviter (l ∷ older) m e = goes_on-where inviter (past (l ∷ older) m.predecessors) m e

  -- addressees
  abbrev pub is_forwarded : History → Id → Message → Id → Bool
  is_forwarded h i m y = any (λ (o : Message). both (bytes_eq o.id i) (both (is_seeded o.kind) (both (is_in_view h m y) (both (opposite (is_recipient h o y))
      (both (opposite (bytes_eq y o.sender)) (opposite (bytes_eq y m.sender))))))) h

  says-forwarded : (h : History) (i : Id) (m : Message) (y : Id) → Says (is_forwarded h i m y) (IsForwardedTo rule h i m y)
  says-forwarded h i m y = says-other
      (λ k. record {
        operation = k.0;
        there_is = k.1;
        has_id = k.2.0;
        seeded = k.2.1.0;
        in_view = k.2.1.1.0;
        no_recipient = k.2.1.1.1.0;
        not_its_sender = k.2.1.1.1.1.0;
        other = k.2.1.1.1.1.1;
      })
      (λ f. (f.operation, f.there_is, (f.has_id, (f.seeded, (f.in_view, (f.no_recipient, (f.not_its_sender, f.other)))))))
      (says-any (λ (o : Message). says-and (says-same o.id i) (says-and (says-seeded o.kind) (says-and (says-view h m y)
      (says-and (says-not (says-recipient h o y)) (says-and (says-not (says-same y o.sender)) (says-not (says-same y m.sender))))))) h)

  abbrev pub is_handed : History → Id → Message → Id → Bool
  is_handed h i m y = any (λ (o : Message). both (bytes_eq o.id i) (both (adds o.kind y) (is_in_view h m y))) h

  says-handed : (h : History) (i : Id) (m : Message) (y : Id) → Says (is_handed h i m y) (IsHandedTo rule h i m y)
  says-handed h i m y = says-other
      (λ k. record { operation = k.0; there_is = k.1; has_id = k.2.0; adds = k.2.1.0; in_view = k.2.1.1 })
      (λ f. (f.operation, f.there_is, (f.has_id, (f.adds, f.in_view))))
      (says-any (λ (o : Message). says-and (says-same o.id i) (says-and (says-adds o.kind y) (says-view h m y))) h)

  abbrev pub is_addressee : History → Message → Kind → Id → Bool
  is_addressee h m (Create members) y = is_recipient h m y
  is_addressee h m Update y = is_recipient h m y
  is_addressee h m (Remove z) y = is_recipient h m y
  is_addressee h m (Add z) y = bytes_eq z y
  is_addressee h m (Ack i true) y = is_forwarded h i m y
  is_addressee h m (Ack i false) y = false
  is_addressee h m (AddAck i) y = is_handed h i m y
  is_addressee h m Text y = false

  pub says-addressee : (h : History) (m : Message) (k : Kind) (y : Id) → Says (is_addressee h m k y) (IsAddressee rule h m k y)
  says-addressee h m (Create members) y = says-recipient h m y
  says-addressee h m Update y = says-recipient h m y
  says-addressee h m (Remove z) y = says-recipient h m y
  says-addressee h m (Add z) y = says-same z y
  says-addressee h m (Ack i true) y = says-forwarded h i m y
  says-addressee h m (Ack i false) y = says-no (λ p. p)
  says-addressee h m (AddAck i) y = says-handed h i m y
  says-addressee h m Text y = says-no (λ p. p)

  -- whoever a message has a part for is named in the history with it
  view-named : IsMembershipRule rule → (h : History) (m : Message) (y : Id) → In m h → InView rule h m y → In y (ids_named h)
  view-named r h m y i v = let n = r.named (with_past h m) y v in
      Named-ids_named h y (record {
        by = n.by;
        names = n.names;
        there_is = elim (In-cases n.there_is) [
          | inl d ↦ subst (λ z. In z h) (sym d) i
          | inr j ↦ past-within h m.predecessors j
        ];
      })

  pub addressee-named : IsMembershipRule rule → (h : History) (m : Message) (k : Kind) (y : Id) → In m h → m.kind ≡ k → IsAddressee rule h m k y → In y (ids_named h)
  addressee-named r h m (Create members) y i e a = view-named r h m y i a.in_view
  addressee-named r h m Update y i e a = view-named r h m y i a.in_view
  addressee-named r h m (Remove z) y i e a = view-named r h m y i a.in_view
  addressee-named r h m (Add z) y i e a = Named-ids_named h y (record { by = m; there_is = i; names = subst (λ k. Names k y) (sym e) a })
  addressee-named r h m (Ack o true) y i e a = view-named r h m y i a.in_view
  addressee-named r h m (Ack o false) y i e a = absurd a
  addressee-named r h m (AddAck o) y i e a = view-named r h m y i a.in_view
  addressee-named r h m Text y i e a = absurd a

  abbrev pub are_addressees : History → Message → List Id → Bool
  are_addressees h m ids = both (ascending ids) (both (each (λ y. is_addressee h m m.kind y) ids)
      (each (λ y. either (opposite (is_addressee h m m.kind y)) (has ids y)) (ids_named h)))

  pub addressees-where : IsMembershipRule rule → (h : History) (m : Message) (ids : List Id) → In m h → are_addressees h m ids ≡ true → AreAddressees rule h m ids
  addressees-where r h m ids i e =
      let k = (says-and (says-ascending ids) (says-and (says-each (λ y. says-addressee h m m.kind y) ids)
      (says-each (λ y. says-if (says-addressee h m m.kind y) (says-has ids y)) (ids_named h)))).holds e in
      record {
        ascending = k.0;
        all = λ y a. k.1.1 y (addressee-named r h m m.kind y i refl a) a;
        only = k.1.0;
      }
