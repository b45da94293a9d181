-- What can be decided: who is a member, and what needs an answer.
use Rattle.std.proofs.Common.{◌≡◌, ◌≢◌, ◌⊎◌, inl, inr, List, ◌∷◌}
use Rattle.std.specs.Str.{bytes_eq}
use Rattle.std.proofs.lemmas.Slice.Eq.{bytes_eq-Decides}
use Rattle.group_model.specs.Sets.{Id, In, has}
use Rattle.group_model.specs.Messages.{Kind, Create, Update, Remove, Add, Ack, AddAck, Text, Message, History}
use Rattle.group_model.specs.Validity.{IsOperation, NeedsAnswer}
use Rattle.group_model.proofs.ListFacts.{test, yes_is, no_is, has-In, In-has}

pub in-or-not : (x : Id) (ids : List Id) → In x ids ⊎ (In x ids → ⊥)
in-or-not x ids = elim (test (has ids x)) [
  | yes_is e ↦ inl (has-In ids x e)
  | no_is e ↦ inr (λ i. let d = In-has ids x i in cc)
]

pub same-or-not : (a b : Id) → (a ≡ b) ⊎ (a ≢ b)
same-or-not a b = elim (test (bytes_eq a b)) [
  | yes_is e ↦ inl ((bytes_eq-Decides a b).0 e)
  | no_is e ↦ inr (λ d. let t = (bytes_eq-Decides a b).1 d in cc)
]

pub operation-or-not : (k : Kind) → IsOperation k ⊎ (IsOperation k → ⊥)
operation-or-not (Create members) = inl tt
operation-or-not Update = inl tt
operation-or-not (Remove y) = inl tt
operation-or-not (Add y) = inl tt
operation-or-not (Ack o took) = inr (λ n. n)
operation-or-not (AddAck o) = inr (λ n. n)
operation-or-not Text = inr (λ n. n)

pub answer-or-not : (rule : History → List Id) (x : Id) (h : History) (m : Message)
    → NeedsAnswer rule x h m ⊎ (NeedsAnswer rule x h m → ⊥)
answer-or-not rule x h m = elim (operation-or-not m.kind) [
  | inr n ↦ inr (λ k. n k.operation)
  | inl o ↦ elim (same-or-not m.sender x) [
    | inl e ↦ inr (λ k. k.others e)
    | inr d ↦ elim (in-or-not x (rule (m ∷ h))) [
      | inr n ↦ inr (λ k. n k.member)
      | inl i ↦ inl (record { operation = o; others = d; member = i })
    ]
  ]
]
