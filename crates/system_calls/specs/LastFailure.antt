-- Which failure of single calls was the last.
use Rattle.std.specs.Prelude.{◌≡◌, Result, Ok, Err, Option, Some}
use Rattle.system_calls.specs.declared.error.CallError.{CallError}
use Rattle.system_calls.specs.declared.error.CallError.TheVariants.{Interrupted}

-- It is this call's where the call failed, but for an interruption, after which the call may be made again.
abbrev pub TellsLast : {T : Type 0} → Option CallError → Option CallError → Result T CallError → Type 0
TellsLast before now (Ok value) = now ≡ before
TellsLast before now (Err Interrupted) = now ≡ before
TellsLast before now (Err error) = now ≡ Some error
