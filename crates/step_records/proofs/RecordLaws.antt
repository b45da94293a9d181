-- Laws of the records of steps.
use Rattle.std.proofs.Common.{◌≡◌, ℕ, ◌≤◌, ◌∷◌, length, Option, Some, None, refl, ap, arith}
use Rattle.std.specs.Option.{option_map}
use Rattle.std.proofs.lemmas.List.{length-append}
use Rattle.kem_trait.specs.declared.kem.Kem.{Ghosts}
use Rattle.group_fields.specs.Cards.{spelling}
use Rattle.group_model.specs.Sets.{Bytes}
use Rattle.reference_member.specs.Steps.{Add, Create, FitsRecord, HasRecord, Init, Input, Remove, Send, Step, Take, Update, record_of, record_with, spellings}
use Rattle.reference_member.proofs.OneStep.{one-step}
use Rattle.step_records.specs.Records.{Tells, step_of}
use Rattle.step_records.specs.Sizes.{HasShortTail, longest_record}
use Rattle.step_records.specs.declared.recorded.StepRecord.{StepRecord}
use Rattle.step_records.proofs.CardBytes.{card-at-most, cards-at-most}

pub never-empty : (set : ℕ) (random : Bytes) (input : Input) → 1 ≤ length (record_with set random input)
never-empty set random (Init inviter height) = omega arith
never-empty set random (Create cards) = omega arith
never-empty set random (Add card) = omega arith
never-empty set random (Remove target) = omega arith
never-empty set random Update = omega arith
never-empty set random (Send text) = omega arith
never-empty set random (Take packet) = omega arith

module _ {K P : Type 0} (kem : Ghosts K P) where
  pub read-back : (step : Step) (read : Option StepRecord) → HasRecord kem step → Tells kem (record_of kem.SET step) read
      → option_map step_of read ≡ Some step
  read-back step None has none = absurd (none step (record { has_record = has; is = refl }))
  read-back step (Some other) has told = ap Some (one-step kem (step_of other) step told.has_record has told.is)

  pub never-long : (random : Bytes) (input : Input) → length random ≡ 32 → FitsRecord kem input → HasShortTail input
      → length (record_with kem.SET random input) ≤ longest_record
  never-long random (Init inviter height) long fits short = omega (arith, long, fits.0, length-append inviter random)
  never-long random (Create cards) long fits short =
      omega (arith, long, fits.1, cards-at-most cards fits.0, length-append random (length cards ∷ spellings cards))
  never-long random (Add card) long fits short = omega (arith, long, card-at-most card fits, length-append random (spelling card))
  never-long random (Remove target) long fits short = omega (arith, long, fits, length-append random target)
  never-long random Update long fits short = omega (arith, long)
  never-long random (Send text) long fits short = omega (arith, long, short, length-append random text)
  never-long random (Take packet) long fits short = omega (arith, long, short, length-append random packet)
