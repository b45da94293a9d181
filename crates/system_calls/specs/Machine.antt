-- What files of the machine show: their failures alone.
use Rattle.std.specs.Prelude.{ℕ}
use Rattle.system_calls.specs.declared.real_files.RealFiles.{RealFiles}

-- how many calls have failed
abbrev pub failures_of : {R : Type 0} → RealFiles R → ℕ
failures_of files = files.failures
