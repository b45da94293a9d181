-- The steps that records tell. docs/SPECIFICATION.md, "Journal records".
use Rattle.std.specs.Prelude.{◌≡◌, ℕ, List, Option, MatchOption}
use Rattle.kem_trait.specs.declared.kem.Kem.{Ghosts}
use Rattle.reference_member.specs.Steps as steps
use Rattle.reference_member.specs.Steps.{HasRecord, Step, record_of}
use Rattle.step_records.specs.declared.recorded.Recorded.{Recorded}
use Rattle.step_records.specs.declared.recorded.Recorded.TheVariants as inputs
use Rattle.step_records.specs.declared.recorded.StepRecord.{StepRecord}

-- what a member was given, as the steps have it
abbrev pub recorded_input : Recorded → steps.Input
recorded_input (inputs.Init inviter height) = steps.Init inviter.0.0 height
recorded_input (inputs.Create cards) = steps.Create cards
recorded_input (inputs.Add card) = steps.Add card
recorded_input (inputs.Remove target) = steps.Remove target.0.0
recorded_input inputs.Update = steps.Update
recorded_input (inputs.Send text) = steps.Send text.now
recorded_input (inputs.Packet packet) = steps.Take packet.now

-- the step that was read
abbrev pub step_of : StepRecord → Step
step_of step = record { input = recorded_input step.input; random = step.random }

module _ {K P : Type 0} (kem : Ghosts K P) where
  -- Bytes are the record of a step.
  pub record IsRecordOf (bytes : List ℕ) (step : Step) : Type 0 where
    pub has_record : HasRecord kem step
    pub is : record_of kem.SET step ≡ bytes

  -- No step has these bytes as its record.
  abbrev pub IsNoRecord : List ℕ → Type 0
  IsNoRecord bytes = (step : Step) → IsRecordOf bytes step → ⊥

  -- what was read tells the step, and nothing was where there is none
  abbrev pub Tells : List ℕ → Option StepRecord → Type 0
  Tells bytes read = MatchOption read (IsNoRecord bytes) (λ step. IsRecordOf bytes (step_of step))
