-- What an output in memory shows.
use Rattle.std.specs.Prelude.{ℕ, List}
use Rattle.system_calls.specs.Plan.{failures_in}
use Rattle.system_calls.specs.declared.output.MemOutput.{MemOutput}

-- the bytes that were written
abbrev pub bytes_of : MemOutput → List ℕ
bytes_of output = output.bytes.items

-- how many calls have failed
abbrev pub failures_of : MemOutput → ℕ
failures_of output = failures_in output.plan
