-- What holds of a member at each step of a run holds of it after the run.
use Rattle.std.proofs.Common.{◌≡◌, List, [], ◌∷◌, Option, Some, None, sym, subst}
use Rattle.kem_trait.specs.declared.kem.Kem.{Ghosts}
use Rattle.group_model.specs.Sets.{Id}
use Rattle.group_model.specs.Messages.{History}
use Rattle.group_model.proofs.ListFacts.{some_same}
use Rattle.reference_member.specs.Members.{Member}
use Rattle.reference_member.specs.Messages.{MadeMessage}
use Rattle.reference_member.specs.Steps.{Step}
use Rattle.reference_member.specs.Accepted.{Accepts, IsRunOf}

module _ {K P : Type 0} (kem : Ghosts K P) (rule : History → List Id) (Holds : Member → Type 0)
    (begins : (step : Step) (made : Option MadeMessage) (after : Member) → Accepts kem rule None step made after → Holds after)
    (moves : (step : Step) (before : Member) (made : Option MadeMessage) (after : Member)
    → Accepts kem rule (Some before) step made after → Holds before → Holds after) where
  pub run-holds : (steps : List Step) (M : Member) (made : List MadeMessage) → IsRunOf kem rule steps (Some M) made → Holds M
  run-holds [] M made r = absurd (let e : Some M ≡ None = r.0 in cc)
  run-holds (step ∷ steps) M made (before, older, message, after, run, accepts, is, made_is) =
      subst Holds (sym (some_same is)) (by before run accepts (λ B r. run-holds steps B older r))
    where
      by : (b : Option Member) → IsRunOf kem rule steps b older → Accepts kem rule b step message after
          → ((B : Member) → IsRunOf kem rule steps (Some B) older → Holds B) → Holds after
      by None run accepts rest = begins step message after accepts
      by (Some B) run accepts rest = moves step B message after accepts (rest B run)
