-- A valid history in which nothing is forked: the messages of a sender are a chain.
use Rattle.std.proofs.Common.{◌≡◌, inl, inr, [], ◌∷◌, List, Option, Some, refl, sym, ◌∙◌, ap, subst}
use Rattle.group_model.specs.Sets.{Id, In, here, there}
use Rattle.group_model.specs.Messages.{Kind, Create, Update, Remove, Add, Ack, AddAck, Text, Message, History, past, IsHistory}
use Rattle.group_model.specs.Membership.{Names, Named, NamedOnce}
use Rattle.group_model.specs.Validity.{Answers, AnswersOne, IsInTurn, MeetsKind, AllValid, AreUnforked}
use Rattle.group_model.proofs.ListFacts.{In-cases, some_same}
use Rattle.group_model.proofs.Valids.{valid-from, each-valid, no_create, rooted}
use Rattle.group_model.proofs.Valids.{past-self}
use Rattle.group_model.proofs.Unforked.{all_seen}

-- one message for a sender and a number
pub number_once : (h : History) → AreUnforked h → {a b : Message} → In a h → In b h → a.sender ≡ b.sender → a.seq ≡ b.seq → a ≡ b
number_once [] u i j e d = elim i [ ]
number_once (m ∷ h) u {a} {b} i j e d = elim (In-cases i) [
  | inl p ↦ elim (In-cases j) [
    | inl q ↦ p ∙ sym q
    | inr q ↦ absurd (u.0 b q (sym e ∙ ap (λ (z : Message). z.sender) p) (sym d ∙ ap (λ (z : Message). z.seq) p))
  ]
  | inr p ↦ elim (In-cases j) [
    | inl q ↦ absurd (u.0 a p (e ∙ ap (λ (z : Message). z.sender) q) (d ∙ ap (λ (z : Message). z.seq) q))
    | inr q ↦ number_once h u.1 p q e d
  ]
]

-- who names: a create, or an add of the id
data Naming (k : Kind) (y : Id) : Type 0 where
  creates : (members : List Id) → k ≡ Create members → Naming k y
  adds : k ≡ Add y → Naming k y

naming : (k : Kind) (y : Id) → Names k y → Naming k y
naming (Create members) y n = creates members refl
naming Update y n = absurd n
naming (Remove z) y n = absurd n
naming (Add z) y n = adds (ap Add n)
naming (Ack i t) y n = absurd n
naming (AddAck i) y n = absurd n
naming Text y n = absurd n

module _ (rule : History → List Id) (inviter : Id → Option Id) where
  pub record Chained (h : History) : Type 0 where
    pub history : IsHistory h
    pub valid : AllValid rule inviter h
    pub unforked : AreUnforked h

  older : {m : Message} {h : History} → Chained (m ∷ h) → Chained h
  older c = record { history = c.history.2; valid = c.valid.1; unforked = c.unforked.1 }

  -- the kinds that answer are in turn where they answer just this
  in_turn : (p : History) (s : Id) (k : Kind) (i : Id) → IsInTurn p s k → Answers k i → AnswersOne p s i
  in_turn p s (Create members) i t a = absurd a
  in_turn p s Update i t a = absurd a
  in_turn p s (Remove y) i t a = absurd a
  in_turn p s (Add y) i t a = absurd a
  in_turn p s (Ack o took) i t a = subst (λ z. AnswersOne p s z) a t
  in_turn p s (AddAck o) i t a = subst (λ z. AnswersOne p s z) a t
  in_turn p s Text i t a = absurd a

  -- the newest message answers what its sender did not answer before
  newest_answers : (m : Message) (h : History) → Chained (m ∷ h) → {a : Message} → In a h → a.sender ≡ m.sender → (i : Id)
      → Answers m.kind i → Answers a.kind i → ⊥
  newest_answers m h c {a} j s i n k = elim (valid-from rule inviter h m c.valid.0) [
    | inl o ↦ subst (λ z. Answers z i) o.creates n
    | inr v ↦
        let one : AnswersOne (past h m.predecessors) m.sender i = in_turn (past h m.predecessors) m.sender m.kind i v.in_turn n in
        one.waits.unmet a (all_seen rule inviter h m c.valid.0 c.valid.1 c.unforked.1 c.unforked.0 j s) s
        (subst (λ z. Answers a.kind z) (sym one.has_id) k)
  ]

  pub answered_once : (h : History) → Chained h → {a b : Message} → In a h → In b h → a.sender ≡ b.sender → (i : Id)
      → Answers a.kind i → Answers b.kind i → a ≡ b
  answered_once [] c p q e i n k = elim p [ ]
  answered_once (m ∷ h) c {a} {b} p q e i n k = elim (In-cases p) [
    | inl d ↦ elim (In-cases q) [
      | inl f ↦ d ∙ sym f
      | inr f ↦ absurd (newest_answers m h c f (sym e ∙ ap (λ (z : Message). z.sender) d) i (subst (λ (z : Message). Answers z.kind i) d n) k)
    ]
    | inr d ↦ elim (In-cases q) [
      | inl f ↦ absurd (newest_answers m h c d (e ∙ ap (λ (z : Message). z.sender) f) i (subst (λ (z : Message). Answers z.kind i) f k) n)
      | inr f ↦ answered_once h (older c) d f e i n k
    ]
  ]

  -- what an add of the history looks at
  add_suits : (h : History) → Chained h → {b : Message} (y : Id) → In b h → b.kind ≡ Add y
      → (Named (past h b.predecessors) y → ⊥) × (inviter y ≡ Some b.sender)
  add_suits h c {b} y j e = elim (each-valid rule inviter h c.history c.valid j) [
    | inl o ↦ absurd (let f : Add y ≡ Create o.members = sym e ∙ o.creates in cc)
    | inr v ↦ (let f : MeetsKind rule inviter (past h b.predecessors) b.sender (Add y)
        = subst (λ z. MeetsKind rule inviter (past h b.predecessors) b.sender z) e v.suits in (f.0, f.1))
  ]

  -- the newest message names nobody who was named before
  newest_names : (m : Message) (h : History) → Chained (m ∷ h) → {b : Message} (y : Id) → In b h → Names m.kind y → Names b.kind y → ⊥
  newest_names m [] c y j n k = elim j [ ]
  newest_names m (l ∷ h) c {b} y j n k = elim (naming m.kind y n) [
    | creates members e ↦ no_create rule inviter l h c.valid.0 e
    | adds e ↦
        let f : MeetsKind rule inviter (past (l ∷ h) m.predecessors) m.sender (Add y)
        = subst (λ z. MeetsKind rule inviter (past (l ∷ h) m.predecessors) m.sender z) e c.valid.0.suits in
        elim (naming b.kind y k) [
          | creates members d ↦ elim (In-cases (rooted rule inviter (m ∷ (l ∷ h)) c.history c.valid members (there j) d here)) [
            | inl q ↦ (let g : Create members ≡ Add y = sym d ∙ ap (λ (z : Message). z.kind) q ∙ e in cc)
            | inr q ↦ f.0 (record { by = b; there_is = subst (λ z. In b z) (past-self m (l ∷ h) c.history) q; names = k })
          ]
          | adds d ↦
              let s : b.sender ≡ m.sender = some_same (sym (add_suits (l ∷ h) (older c) y j d).1 ∙ f.1) in
              f.0 (record {
                by = b;
                there_is = all_seen rule inviter (l ∷ h) m c.valid.0 c.valid.1 c.unforked.1 c.unforked.0 j s;
                names = k;
              })
        ]
  ]

  pub named_once : (h : History) → Chained h → NamedOnce h
  named_once [] c = record { once = λ a b x p q n k. elim p [ ] }
  named_once (m ∷ h) c = record {
    once = λ a b x p q n k. elim (In-cases p) [
      | inl d ↦ elim (In-cases q) [
        | inl f ↦ d ∙ sym f
        | inr f ↦ absurd (newest_names m h c x f (subst (λ (z : Message). Names z.kind x) d n) k)
      ]
      | inr d ↦ elim (In-cases q) [
        | inl f ↦ absurd (newest_names m h c x d (subst (λ (z : Message). Names z.kind x) f k) n)
        | inr f ↦ (named_once h (older c)).once a b x d f n k
      ]
    ];
  }
