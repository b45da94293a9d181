-- The limits by numbers.
use Rattle.std.proofs.Common.{◌≡◌, ◌↔◌, ◌+◌, ◌≤◌, Bool, true, false, if◌then◌else◌, List, ◌∷◌, length, refl}
use Rattle.std.proofs.Common.{arith}
use Rattle.group_model.specs.Sets.{Id}
use Rattle.group_model.specs.Messages.{Message, History}
use Rattle.group_model.specs.Membership.{ids_named}
use Rattle.group_model.specs.Validity.{NeedsAnswer, IsWithinLimits}

-- there is room for the message, for the answer that it needs, and for whom it names
pub limits-say : (rule : History → List Id) (x : Id) (h : History) (m : Message) (answers : Bool)
    → (answers ≡ true) ↔ NeedsAnswer rule x h m
    → ((length h + (if answers then 2 else 1) ≤ 4096) × (length (ids_named (m ∷ h)) ≤ 32))
    ↔ IsWithinLimits rule x h m
limits-say rule x h m true says = (
  λ k. let room : length h + 2 ≤ 4096 = k.0 in
      record { messages = omega arith; answer = λ n. omega arith; ids = k.1 },
  λ w. let room : length (m ∷ h) + 1 ≤ 4096 = w.answer (says.0 refl) in (omega arith, w.ids),
)
limits-say rule x h m false says = (
  λ k. let room : length h + 1 ≤ 4096 = k.0 in
      record {
        messages = omega arith;
        answer = λ n. absurd (let e : false ≡ true = says.1 n in cc);
        ids = k.1;
      },
  λ w. let room : length (m ∷ h) ≤ 4096 = w.messages in (omega arith, w.ids),
)
