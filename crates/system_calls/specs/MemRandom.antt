-- What random bytes in memory show.
use Rattle.std.specs.Prelude.{ℕ, List, drop}
use Rattle.system_calls.specs.Plan.{failures_in}
use Rattle.system_calls.specs.declared.random.MemRandom.{MemRandom}

-- the bytes that they have yet to give, in order
abbrev pub bytes_to_come : MemRandom → List ℕ
bytes_to_come random = drop random.next random.bytes.items

-- how often they were opened
abbrev pub openings_of : MemRandom → ℕ
openings_of random = random.openings

-- how many calls have failed
abbrev pub failures_of : MemRandom → ℕ
failures_of random = failures_in random.plan
