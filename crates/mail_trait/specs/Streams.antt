-- What rows of single calls leave.
use Rattle.std.specs.Prelude.{◌≡◌, ℕ, false, List, []}
use Rattle.std.specs.declared.io.ErrorKind.TheVariants.{UnexpectedEof}
use Rattle.system_calls.specs.Stored.{fresh_file}
use Rattle.system_calls.specs.declared.stored.StoredFile.{StoredFile}
use Rattle.system_calls.specs.declared.error.CallError.{CallError}
use Rattle.system_calls.specs.declared.error.CallError.TheVariants.{Failed}

-- an error of the device's own: it ended, and where it tells what it has yet to give, that is nothing
abbrev pub Ended : Type 0 → List ℕ → CallError → Type 0
Ended told to_come error = (error ≡ Failed UnexpectedEof) × (told → to_come ≡ [])

-- a file that was just made for others too, with these bytes
abbrev pub fresh_with : List ℕ → StoredFile
fresh_with bytes = record (fresh_file false) { bytes = bytes }
