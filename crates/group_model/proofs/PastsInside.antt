-- A past and a view inside a past, and a past by one message's predecessors.
use Rattle.std.proofs.Common.{◌≡◌, ◌⊎◌, inl, inr, List, [], ◌∷◌, ◌++◌, refl, sym, ◌∙◌, ap, subst}
use Rattle.std.specs.Prelude.{◌↔◌}
use Rattle.group_model.specs.Sets.{Id, In, here, there, has}
use Rattle.group_model.specs.Messages.{Message, History, past, with_past, IsHistory, IsHead}
use Rattle.group_model.specs.Membership.{InView}
use Rattle.group_model.proofs.ListFacts.{yes_is, no_is, test, has-In, In-cases}
use Rattle.group_model.proofs.Pasts.{past-taken, past-left, past-none, past-within, past-direct, past-closed, past-trans, past-least}
use Rattle.group_model.proofs.Ascending.{head-last, not_head}

-- what the ids lead back to inside a past that has all of it
past-in_past : (h : History) → IsHistory h → (w v : List Id) → ((a : Message) → In a (past h v) → In a (past h w))
    → past (past h w) v ≡ past h v
past-in_past [] g w v f = ap (λ z. past z v) (past-none w)
past-in_past (m ∷ older) g w v f = elim (test (has w m.id)) [
  | yes_is e ↦ ap (λ z. past z v) (past-taken m older w e) ∙ elim (test (has v m.id)) [
    | yes_is d ↦ past-taken m (past older (m.predecessors ++ w)) v d
        ∙ ap (λ z. m ∷ z) (past-in_past older g.2 (m.predecessors ++ w) (m.predecessors ++ v)
        (λ a i. below a (past-within older (m.predecessors ++ v) i)
        (subst (λ z. In a z) (past-taken m older w e) (f a (subst (λ z. In a z) (sym (past-taken m older v d)) (there i))))))
        ∙ sym (past-taken m older v d)
    | no_is d ↦ past-left m (past older (m.predecessors ++ w)) v d
        ∙ past-in_past older g.2 (m.predecessors ++ w) v
        (λ a i. below a (past-within older v i)
        (subst (λ z. In a z) (past-taken m older w e) (f a (subst (λ z. In a z) (sym (past-left m older v d)) i))))
        ∙ sym (past-left m older v d)
  ]
  | no_is e ↦ ap (λ z. past z v) (past-left m older w e) ∙ elim (test (has v m.id)) [
    | yes_is d ↦ absurd (g.1 (record {
      by = m;
      has_id = refl;
      there_is = past-within older w (subst (λ z. In m z) (past-left m older w e)
          (f m (past-direct (m ∷ older) v here (has-In v m.id d))));
    }))
    | no_is d ↦ past-in_past older g.2 w v
        (λ a i. subst (λ z. In a z) (past-left m older w e) (f a (subst (λ z. In a z) (sym (past-left m older v d)) i)))
        ∙ sym (past-left m older v d)
  ]
]
  where
    -- a message of the older ones is not the newest
    below : (a : Message) → In a older → {p : History} → In a (m ∷ p) → In a p
    below a j i = elim (In-cases i) [
      | inl q ↦ absurd (g.1 (record { by = a; there_is = j; has_id = ap (λ (z : Message). z.id) q }))
      | inr k ↦ k
    ]

pub past-of_inner : (h : History) (w : List Id) (a : Message) → IsHistory h → In a (past h w)
    → past (past h w) a.predecessors ≡ past h a.predecessors
past-of_inner h w a g i = past-in_past h g w a.predecessors (λ b j. past-trans h g w i j)

pub with_past-of_inner : (h : History) (w : List Id) (a : Message) → IsHistory h → In a (past h w)
    → with_past (past h w) a ≡ with_past h a
with_past-of_inner h w a g i = ap (λ z. a ∷ z) (past-of_inner h w a g i)

pub view-of_inner : (rule : History → List Id) (h : History) (w : List Id) (a : Message) (x : Id) → IsHistory h → In a (past h w)
    → InView rule (past h w) a x ↔ InView rule h a x
view-of_inner rule h w a x g i = (
  λ k. subst (λ z. In x (rule z)) (with_past-of_inner h w a g i) k,
  λ k. subst (λ z. In x (rule z)) (sym (with_past-of_inner h w a g i)) k,
)

-- a predecessor of m is the message or has it in its past
abbrev ByPredecessor : History → Message → Message → Type 0
ByPredecessor h m c = (b : Message) × In b h × In b.id m.predecessors × ((c ≡ b) ⊎ In c (past h b.predecessors))

pub past-by_predecessor : (h : History) (m a : Message) → IsHistory h → In a (past h m.predecessors)
    ↔ ((b : Message) × In b h × In b.id m.predecessors × ((a ≡ b) ⊎ In a (past h b.predecessors)))
past-by_predecessor h m a g = (forth, back)
  where
    further : (b c : Message) → In b h → In c h → ByPredecessor h m b → In c.id b.predecessors → ByPredecessor h m c
    further b c j k y d = (
      y.0,
      y.1,
      y.2,
      inr (elim y.3 [
        | inl e ↦ past-direct h y.0.predecessors k (subst (λ (z : Message). In c.id z.predecessors) e d)
        | inr i ↦ past-closed h g y.0.predecessors i k d
      ]),
    )

    forth : In a (past h m.predecessors) → ByPredecessor h m a
    forth i = past-least h m.predecessors (ByPredecessor h m) (λ b j d. (b, j, d, inl refl)) (λ b c j k y d. further b c j k y d) i

    back : ByPredecessor h m a → In a (past h m.predecessors)
    back y = elim y.3 [
      | inl e ↦ past-direct h m.predecessors (subst (λ z. In z h) (sym e) y.1) (subst (λ (z : Message). In z.id m.predecessors) (sym e) y.2)
      | inr i ↦ past-trans h g m.predecessors (past-direct h m.predecessors y.1 y.2) i
    ]

-- heads by predecessors
pub head-by_predecessors : (h : History) (a : Message)
    → IsHead h a ↔ (In a h × ((b : Message) → In b h → In a.id b.predecessors → ⊥))
head-by_predecessors h a = (
  λ k. (k.there_is, λ b j d. not_head h a b j d k),
  λ k. head-last h a k.0 k.1,
)
