-- What an output in memory shows.
use Rattle.std.specs.Prelude.{ℕ, List}
use Rattle.group_fields.specs.declared.counts.Counts.{Counts}
use Rattle.group_fields.specs.Plan.{KeepsPlan}
use Rattle.system_calls.specs.Plan.{failing_in, made_in, counts_in}
use Rattle.mail_trait.specs.declared.mem_sink.MemSink.{MemSink}

-- the bytes that were appended
abbrev pub bytes_in : MemSink → List ℕ
bytes_in sink = sink.bytes.items

-- the numbers, from 1, of the calls that are to fail
abbrev pub failing_calls : MemSink → List ℕ
failing_calls sink = failing_in sink.plan

-- how many calls it has had
abbrev pub calls_made : MemSink → ℕ
calls_made sink = made_in sink.plan

abbrev pub counts_of : MemSink → Counts
counts_of sink = counts_in sink.plan

-- the same calls are to fail, and where there are none, none has failed
abbrev pub Follows : MemSink → MemSink → Type 0
Follows before now = KeepsPlan (failing_calls before) (failing_calls now) (counts_of before) (counts_of now)
