-- Whether a member stepped its ratchet, by the numbers of messages.
use Rattle.std.proofs.Common.{◌≡◌, ℕ, ◌+◌, ◌<◌, ◌≤◌, inl, inr, length, subst, arith}
use Rattle.std.proofs.lemmas.Bool.Decides.{eqb_tells}
use Rattle.group_model.specs.Sets.{Id}
use Rattle.group_model.specs.Messages.{Message, History}
use Rattle.group_model.specs.Marks.{HasNumber}
use Rattle.group_model.specs.Validity.{HasStepped, StepsRatchet}
use Rattle.group_model.proofs.Numbers.{number-in, number-of, number-below, number-one}

-- no message with a number below this one is the member's and steps its ratchet
abbrev pub NoStepBelow : History → Id → ℕ → Type 0
NoStepBelow h x at = (i : ℕ) (m : Message) → i < at → HasNumber h i m → (m.sender ≡ x) × StepsRatchet m.kind → ⊥

module _ (h : History) (x : Id) (at : ℕ) where
  pub step-here : (m : Message) → HasNumber h at m → (m.sender ≡ x) × StepsRatchet m.kind → HasStepped h x
  step-here m r k = record { by = m; there_is = number-in h at m r; own = k.0; steps = k.1 }

  pub step-none : length h ≤ at → NoStepBelow h x at → HasStepped h x → ⊥
  step-none l none s = let r = number-of h s.there_is in
      none r.0 s.by (let b = number-below h r.0 s.by r.1 in omega arith) r.1 (s.own, s.steps)

  pub step-next : (m : Message) → HasNumber h at m → ((m.sender ≡ x) × StepsRatchet m.kind → ⊥) → NoStepBelow h x at
      → NoStepBelow h x (at + 1)
  step-next m r miss none i n l q k = elim (eqb_tells i at) [
    | inl e ↦ miss (subst (λ (z : Message). (z.sender ≡ x) × StepsRatchet z.kind)
        (number-one h at n m (subst (λ z. HasNumber h z n) e.1 q) r) k)
    | inr e ↦ none i n (let d = e.1 in omega arith) q k
  ]
