-- The refusals of a step, by what it is given.
use Rattle.std.proofs.Common.{◌≡◌, ℕ, List, Option, Some, None, Result, Ok, Err, IfOk, inl, refl, sym, subst}
use Rattle.kem_trait.specs.declared.kem.Kem.{Ghosts}
use Rattle.group_fields.specs.declared.ids.MemberId.{MemberId}
use Rattle.group_model.specs.Sets.{Id}
use Rattle.group_model.specs.Messages.{History}
use Rattle.member_view.specs.Causes.{GivesNone, IsFirst}
use Rattle.reference_member.specs.Members.{Member}
use Rattle.reference_member.specs.Refusals.{on_input, refusals_of}
use Rattle.reference_member.specs.Steps as steps
use Rattle.reference_member.specs.declared.refusal.Refusal.{Refusal}
use Rattle.reference_member.specs.declared.refusal.Refusal.TheVariants as refusals
use Rattle.reference_member.specs.declared.input.Input.{Input}
use Rattle.reference_member.specs.declared.input.Input.TheVariants as inputs
use Rattle.member_checks.specs.Answers.{AnswersFirst}
use Rattle.reference_member.specs.Inputs.{input_of}

-- what follows of each answer
pub ok-then : {T E : Type 0} {P Q : T → Type 0} (r : Result T E) → ((x : T) → P x → Q x) → IfOk r P → IfOk r Q
ok-then (Ok x) f h = f x h
ok-then (Err e) f h = h

module _ {K P : Type 0} (kem : Ghosts K P) (rule : History → List Id) where
  of-member : (M : Member) (input : steps.Input) (answer : Option Refusal) → AnswersFirst (on_input kem rule M input) answer
      → AnswersFirst (refusals_of kem rule (Some M) input) answer
  unfolding refusals_of
  of-member M input answer x = x

  pub by-input : (M : Member) (input is : Input) → input ≡ is → (answer : Option Refusal)
      → AnswersFirst (on_input kem rule M (input_of is)) answer
      → AnswersFirst (refusals_of kem rule (Some M) (input_of input)) answer
  by-input M input is e answer x = subst (λ z. AnswersFirst (refusals_of kem rule (Some M) (input_of z)) answer) (sym e)
      (of-member M (input_of is) answer x)

  makes : (inviter : MemberId) (height : ℕ) → GivesNone (refusals_of kem rule None (input_of (inputs.Init inviter height)))
  unfolding refusals_of
  makes inviter height = tt

  -- the first step may be the one that makes the member
  pub may-make : (input : Input) (inviter : MemberId) (height : ℕ) → input ≡ inputs.Init inviter height
      → GivesNone (refusals_of kem rule None (input_of input))
  may-make input inviter height e = subst (λ z. GivesNone (refusals_of kem rule None (input_of z))) (sym e) (makes inviter height)

  -- and no other
  pub not-made : (input : Input) → ((inviter : MemberId) (height : ℕ) → input ≡ inputs.Init inviter height → ⊥)
      → IsFirst (refusals_of kem rule None (input_of input)) refusals.NotMade
  unfolding refusals_of
  not-made (inputs.Init inviter height) n = absurd (n inviter height refl)
  not-made (inputs.Create cards) n = inl (tt, refl)
  not-made (inputs.Add card) n = inl (tt, refl)
  not-made (inputs.Remove target) n = inl (tt, refl)
  not-made inputs.Update n = inl (tt, refl)
  not-made (inputs.Send text) n = inl (tt, refl)
  not-made (inputs.Packet packet) n = inl (tt, refl)
