-- What a plan of failing calls shows.
use Rattle.std.specs.Prelude.{◌+◌, ℕ, List}
use Rattle.group_fields.specs.declared.counts.Counts.{Counts}
use Rattle.system_calls.specs.declared.plan.Plan.{Plan}

-- the numbers, from 1, of the calls that are to fail
abbrev pub failing_in : Plan → List ℕ
failing_in plan = plan.failing.items

-- how many calls there were
abbrev pub made_in : Plan → ℕ
made_in plan = plan.made

-- how often one has failed, and wanted memory
abbrev pub counts_in : Plan → Counts
counts_in plan = plan.counts

-- how often one has failed, where a want of memory is a failure too
abbrev pub failures_in : Plan → ℕ
failures_in plan = plan.counts.faults + plan.counts.wants
