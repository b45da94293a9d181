-- Which failures of single calls are counted.
use Rattle.std.specs.Prelude.{◌≡◌, ℕ, Result, Ok, Err}
use Rattle.std.specs.declared.io.ErrorKind.{ErrorKind}
use Rattle.std.specs.declared.io.ErrorKind.TheVariants as kinds
use Rattle.group_fields.specs.Counts.{IsRaised}
use Rattle.system_calls.specs.declared.error.CallError.{CallError}
use Rattle.system_calls.specs.declared.error.CallError.TheVariants.{Interrupted, Taken, Memory, Failed}

-- what an error of the machine becomes
abbrev pub error_of : ErrorKind → CallError
error_of kinds.Interrupted = Interrupted
error_of kinds.OutOfMemory = Memory
error_of kind = Failed kind

-- the kind of an error of the machine that stands for it
abbrev pub kind_of : CallError → ErrorKind
kind_of Interrupted = kinds.Interrupted
kind_of Taken = kinds.AlreadyExists
kind_of Memory = kinds.OutOfMemory
kind_of (Failed kind) = kind

-- The count rises at each error, but for an interrupted call, which may be made again, and for a name that is taken,
-- which is an answer. It rises at nothing else.
abbrev pub CountsFailure : {T : Type 0} → ℕ → ℕ → Result T CallError → Type 0
CountsFailure before now (Ok value) = now ≡ before
CountsFailure before now (Err Interrupted) = now ≡ before
CountsFailure before now (Err Taken) = now ≡ before
CountsFailure before now (Err Memory) = IsRaised before now
CountsFailure before now (Err (Failed kind)) = IsRaised before now
