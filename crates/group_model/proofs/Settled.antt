-- Who answers at once is always in turn.
use Rattle.std.proofs.Common.{◌≡◌, ◌≢◌, ◌⊎◌, inl, inr, ◌∷◌, refl, sym, ◌∙◌, subst, ap}
use Rattle.group_model.specs.Sets.{Id, In, here, there}
use Rattle.group_model.specs.Messages.{Kind, Create, Update, Remove, Add, Ack, AddAck, Text, Message, History, past, Stands, IsHistory}
use Rattle.group_model.specs.Validity.{IsOperation, Answers, IsUnanswered, AnswersOne, AnswersNone}
use Rattle.group_model.proofs.ListFacts.{In-cases}
use Rattle.group_model.proofs.Pasts.{past-within}
use Rattle.group_model.proofs.Valids.{past-self, past-older}

-- an answer of the history answers what stands in it
pub record AnswersStand (h : History) : Type 0 where
  pub stands_too : (a : Message) (i : Id) → In a h → Answers a.kind i → Stands h i

module _ (m : Message) (h : History) (g : IsHistory (m ∷ h)) (x : Id) where
  -- what waits over one more message waited before, or is it
  older_wait : (o : Message) → IsUnanswered (m ∷ h) x o → (o ≡ m) ⊎ IsUnanswered h x o
  older_wait o u = elim (In-cases u.there_is) [
    | inl e ↦ inl e
    | inr i ↦ inr (record {
      there_is = i;
      operation = u.operation;
      others = u.others;
      unmet = λ a j e n. u.unmet a (there j) e n;
      counts = λ b j e. elim (u.counts b (there j) e) [
        | inl q ↦ inl q
        | inr f ↦ inr (λ k. f (subst (λ z. In o z) (sym (past-older m h g j)) k))
      ];
    })
  ]

  -- a message that is no operation of others leaves a settled member settled
  pub settled_more : AnswersNone h x → (IsOperation m.kind → m.sender ≢ x → ⊥) → AnswersNone (m ∷ h) x
  settled_more s f o u = elim (older_wait o u) [
    | inl e ↦ f (subst (λ (z : Message). IsOperation z.kind) e u.operation) (subst (λ (z : Message). z.sender ≢ x) e u.others)
    | inr w ↦ s o w
  ]

  -- an operation of others that a settled member takes is the one that waits
  pub takes_one : AnswersNone h x → AnswersStand h → IsOperation m.kind → m.sender ≢ x → AnswersOne (m ∷ h) x m.id
  takes_one s st op ne = record {
    operation = m;
    has_id = refl;
    waits = record {
      there_is = here;
      operation = op;
      others = ne;
      unmet = λ a i e n. elim (In-cases i) [
        | inl q ↦ no_answer m.kind op (subst (λ (z : Message). Answers z.kind m.id) q n)
        | inr j ↦ g.1 (st.stands_too a m.id j n)
      ];
      counts = λ b i e. elim (In-cases i) [
        | inl q ↦ inl (sym q)
        | inr j ↦ inr (λ k. g.1 (record { by = m; has_id = refl; there_is = past-within h b.predecessors (subst (λ z. In m z) (past-older m h g j) k) }))
      ];
    };
    only = λ o u. elim (older_wait o u) [ inl e ↦ ap (λ (z : Message). z.id) e | inr w ↦ absurd (s o w) ];
  }
    where
      no_answer : (k : Kind) → IsOperation k → Answers k m.id → ⊥
      no_answer (Create members) o n = n
      no_answer Update o n = n
      no_answer (Remove y) o n = n
      no_answer (Add y) o n = n
      no_answer (Ack i took) o n = o
      no_answer (AddAck i) o n = o
      no_answer Text o n = o

  -- after the answer the member is settled again
  pub answer_settles : (i : Id) → AnswersOne h x i → m.sender ≡ x → Answers m.kind i → AnswersNone (m ∷ h) x
  answer_settles i one e n o u = elim (older_wait o u) [
    | inl q ↦ u.others (subst (λ (z : Message). z.sender ≡ x) (sym q) e)
    | inr w ↦ u.unmet m here e (subst (λ z. Answers m.kind z) (sym (one.only o w)) n)
  ]

-- who joins by an add answers it, and nothing of its past
pub joins_one : (b : Message) (rows : History) → IsHistory (b ∷ rows) → (x : Id) → b.kind ≡ Add x → b.sender ≢ x → ((a : Message) → In a rows → In a (past rows b.predecessors)) → ((a : Message) → In a rows → a.sender ≢ x) → AnswersOne (b ∷ rows) x b.id
joins_one b rows g x adds ne heads lone = record {
  operation = b;
  has_id = refl;
  waits = record {
    there_is = here;
    operation = subst IsOperation (sym adds) tt;
    others = ne;
    unmet = λ a i e n. elim (In-cases i) [ inl q ↦ ne (ap (λ (z : Message). z.sender) (sym q) ∙ e) | inr j ↦ lone a j e ];
    counts = λ d i e. elim (In-cases i) [
      | inl q ↦ inl (sym q)
      | inr j ↦ inr (λ k. g.1 (record { by = b; has_id = refl; there_is = past-within rows d.predecessors (subst (λ z. In b z) (past-older b rows g j) k) }))
    ];
  };
  only = λ o u. elim (In-cases u.there_is) [
    | inl e ↦ ap (λ (z : Message). z.id) e
    | inr j ↦ elim (u.counts b here adds) [
      | inl q ↦ ap (λ (z : Message). z.id) q
      | inr f ↦ absurd (f (subst (λ z. In o z) (sym (past-self b rows g)) (heads o j)))
    ]
  ];
}
