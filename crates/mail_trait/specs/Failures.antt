-- How the failures of single calls become those of a device.
use Rattle.std.specs.Prelude.{◌≡◌, ◌⊎◌, ℕ, Result, Ok, Err, Option, Some, OnOk}
use Rattle.std.specs.declared.io.ErrorKind.{ErrorKind}
use Rattle.system_calls.specs.Errors.{kind_of, CountsFailure}
use Rattle.system_calls.specs.declared.error.CallError.{CallError}
use Rattle.system_calls.specs.declared.error.CallError.TheVariants as calls
use Rattle.mail_trait.specs.declared.error.MailError.{MailError}
use Rattle.mail_trait.specs.declared.error.MailError.TheVariants.{Failed, Memory}

-- want of memory is what a call says is want of memory, and no other failure
abbrev pub mail_error : CallError → MailError
mail_error calls.Memory = Memory
mail_error error = Failed

abbrev pub answer_of : {T : Type 0} → Result T CallError → Result T MailError
answer_of (Ok value) = Ok value
answer_of (Err error) = Err (mail_error error)

-- the kind of the last failure, after one call more of the device
abbrev pub reason_after : {T : Type 0} → Option ErrorKind → Result T CallError → Option ErrorKind
reason_after before (Ok value) = before
reason_after before (Err error) = Some (kind_of error)

-- Calls in a row end well only where none has failed, and else as the last one of them, unless interruptions never end
-- or there is an error of the device's own.
abbrev pub EndsAs : {T : Type 0} → (CallError → Type 0) → ℕ → ℕ → Option CallError → Result T CallError → Type 0
EndsAs own before now last (Ok value) = now ≡ before
EndsAs own before now last (Err calls.Interrupted) = now ≡ before
EndsAs {T} own before now last (Err error) =
    (CountsFailure {T = T} before now (Err error) × (last ≡ Some error)) ⊎ ((now ≡ before) × own error)

-- Calls in a row end well only where none has failed.
abbrev pub EndsCalm : {T : Type 0} → ℕ → ℕ → Result T CallError → Type 0
EndsCalm before now outcome = OnOk outcome (now ≡ before)

-- A device tells how its calls ended, and keeps the kind of a failure.
pub record Tells {T : Type 0} (ends : Result T CallError → Type 0) (old new : Option ErrorKind)
    (result : Result T MailError) : Type 0 where
  pub outcome : Result T CallError
  pub ended : ends outcome
  pub answer : result ≡ answer_of outcome
  pub reason : new ≡ reason_after old outcome
