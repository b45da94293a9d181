-- What a disk makes of a call that failed.
use Rattle.std.specs.Prelude.{◌≡◌, ℕ, Option, Some, Result, Err, MatchResult}
use Rattle.std.specs.declared.io.ErrorKind.{ErrorKind}
use Rattle.system_calls.specs.Errors.{kind_of, CountsFailure}
use Rattle.system_calls.specs.declared.error.CallError.{CallError}
use Rattle.system_calls.specs.declared.error.CallError.TheVariants.{Interrupted, Taken, Memory as NoMemory}
use Rattle.system_calls.specs.declared.error.CallError.TheVariants.{Failed as CallFailed}
use Rattle.disk_trait.specs.declared.disk.DiskError.{DiskError}
use Rattle.disk_trait.specs.declared.disk.DiskError.TheVariants.{Failed, Memory}

-- a want of memory stays one, and all else is a failure
abbrev pub disk_error : CallError → DiskError
disk_error NoMemory = Memory
disk_error Interrupted = Failed
disk_error Taken = Failed
disk_error (CallFailed kind) = Failed

-- Where the disk answers Ok no call has failed. Where it answers an error it is that of a call, whose kind it keeps,
-- and which was counted as a failure of the calls.
abbrev pub TellsFailure : {T : Type 0} → ℕ → ℕ → Option ErrorKind → Result T DiskError → Type 0
TellsFailure {T} before now reason result = MatchResult result
    (λ value. now ≡ before)
    (λ error. (cause : CallError) × (error ≡ disk_error cause) × (reason ≡ Some (kind_of cause))
    × CountsFailure {T = T} before now (Err cause))
