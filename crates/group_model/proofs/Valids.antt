-- What a valid history gives.
use Rattle.std.proofs.Common.{◌≡◌, ◌⊎◌, inl, inr, List, [], ◌∷◌, Option, refl, sym, ◌∙◌, subst, ap}
use Rattle.group_model.specs.Sets.{Id, In, here, there, has}
use Rattle.group_model.specs.Messages.{Create, Message, History, past, Stands, IsHistory, with_past}
use Rattle.group_model.specs.Validity.{MeetsKind, Opens, GoesOn, MayFollow, AllValid}
use Rattle.group_model.proofs.ListFacts.{yes_is, no_is, test, has-In, In-cases}
use Rattle.group_model.proofs.Pasts.{past-within, past-trans, past-left, deps-stand}

-- a message that nothing wants adds nothing to a past
pub past-over : (m : Message) (h : History) → (Stands h m.id → ⊥) → (w : List Id) → ((i : Id) → In i w → Stands h i) → past (m ∷ h) w ≡ past h w
past-over m h new w f = elim (test (has w m.id)) [
  | yes_is e ↦ absurd (new (f m.id (has-In w m.id e)))
  | no_is e ↦ past-left m h w e
]

-- the past of a message over its history is that over the history with it
pub past-self : (m : Message) (h : History) → IsHistory (m ∷ h) → past (m ∷ h) m.predecessors ≡ past h m.predecessors
past-self m h g = past-over m h g.1 m.predecessors g.0

pub past-older : (m : Message) (h : History) → IsHistory (m ∷ h) → {a : Message} → In a h → past (m ∷ h) a.predecessors ≡ past h a.predecessors
past-older m h g {a} i = past-over m h g.1 a.predecessors (deps-stand h g.2 i)

-- the message opens a history or goes on from the set
abbrev pub IsValid : (rule : History → List Id) → (inviter : Id → Option Id) → History → Message → Type 0
IsValid rule inviter p m = Opens inviter m ⊎ GoesOn rule inviter p m

pub valid-from : (rule : History → List Id) (inviter : Id → Option Id) (h : History) (m : Message) → MayFollow rule inviter h m → IsValid rule inviter (past h m.predecessors) m
valid-from rule inviter [] m v = inl v
valid-from rule inviter (a ∷ h) m v = inr v

pub each-valid : (rule : History → List Id) (inviter : Id → Option Id) (h : History) → IsHistory h → AllValid rule inviter h → {m : Message} → In m h → IsValid rule inviter (past h m.predecessors) m
each-valid rule inviter [] g v i = elim i [ ]
each-valid rule inviter (m ∷ h) g v here = rw (past-self m h g) (valid-from rule inviter h m v.0)
each-valid rule inviter (m ∷ h) g v (there {x = a} i) = subst (λ z. IsValid rule inviter z a) (sym (past-older m h g i)) (each-valid rule inviter h g.2 v.1 i)

-- the one create
pub no_create : (rule : History → List Id) (inviter : Id → Option Id) (a : Message) (h : History) → {m : Message} {members : List Id} → MayFollow rule inviter (a ∷ h) m → m.kind ≡ Create members → ⊥
no_create rule inviter a h {m} v e = subst (λ k. MeetsKind rule inviter (past (a ∷ h) m.predecessors) m.sender k) e v.suits

pub one_create : (rule : History → List Id) (inviter : Id → Option Id) (h : History) → AllValid rule inviter h → {a b : Message} {k l : List Id} → In a h → In b h → a.kind ≡ Create k → b.kind ≡ Create l → a ≡ b
one_create rule inviter [] v i j d e = elim i [ ]
one_create rule inviter (m ∷ h) v here here d e = refl
one_create rule inviter (m ∷ []) v here (there j) d e = elim j [ ]
one_create rule inviter (m ∷ (n ∷ h)) v here (there j) d e = absurd (no_create rule inviter n h v.0 d)
one_create rule inviter (m ∷ []) v (there i) here d e = elim i [ ]
one_create rule inviter (m ∷ (n ∷ h)) v (there i) here d e = absurd (no_create rule inviter n h v.0 e)
one_create rule inviter (m ∷ h) v (there i) (there j) d e = one_create rule inviter h v.1 i j d e

-- each message has the create in its past, or is it
pub rooted : (rule : History → List Id) (inviter : Id → Option Id) (h : History) → IsHistory h → AllValid rule inviter h → (k : List Id) → {a m : Message} → In a h → a.kind ≡ Create k → In m h → In a (with_past h m)
rooted rule inviter [] g v k i e j = elim i [ ]
rooted rule inviter (m ∷ []) g v k here e here = here
rooted rule inviter (m ∷ []) g v k (there i) e j = elim i [ ]
rooted rule inviter (m ∷ []) g v k i e (there j) = elim j [ ]
rooted rule inviter (m ∷ (n ∷ h)) g v k {a} {m = l} i e j = elim (In-cases i) [
  | inl p ↦ absurd (no_create rule inviter n h {members = k} v.0 (ap (λ (z : Message). z.kind) (sym p) ∙ e))
  | inr x ↦ elim (In-cases j) [
    | inl q ↦ subst (λ z. In a (with_past (m ∷ n ∷ h) z)) (sym q) (there (subst (λ z. In a z) (sym (past-self m (n ∷ h) g))
        (elim (In-cases (rooted rule inviter (n ∷ h) g.2 v.1 k x e (past-within (n ∷ h) m.predecessors v.0.named.there_is))) [
          | inl r ↦ subst (λ z. In z (past (n ∷ h) m.predecessors)) (sym r) v.0.named.there_is
          | inr r ↦ past-trans (n ∷ h) g.2 m.predecessors v.0.named.there_is r
        ])))
    | inr y ↦ subst (λ z. In a (l ∷ z)) (sym (past-older m (n ∷ h) g y)) (rooted rule inviter (n ∷ h) g.2 v.1 k x e y)
  ]
]
