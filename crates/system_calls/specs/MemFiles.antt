-- The files in memory: what was made of each path, one change after another.
use Rattle.std.specs.Prelude.{◌≡◌, ℕ, Bool, Option, Some, None, List, [], ◌∷◌, bytes_eq, if◌then◌else◌}
use Rattle.std.specs.Option.{option_map}
use Rattle.std.specs.Borrow.{Bor}
use Rattle.system_calls.specs.Stored.{named}
use Rattle.system_calls.specs.declared.stored.StoredFile.{StoredFile}
use Rattle.system_calls.specs.declared.changes.Change.{Change}
use Rattle.system_calls.specs.declared.changes.Change.TheVariants.{Put, Gone, Moved, Named}

-- what a change makes of what there is under a path
abbrev pub changed : List ℕ → Option StoredFile → Change → Option StoredFile
changed path stored (Put other file) = if bytes_eq other path then Some file else stored
changed path stored (Gone other) = if bytes_eq other path then None else stored
changed path stored (Moved other to file) =
    if bytes_eq to path then Some file else (if bytes_eq other path then None else stored)
changed path stored (Named other) = if bytes_eq other path then option_map named stored else stored

-- what changes, the oldest first, make of it
abbrev pub all_changed : List ℕ → Option StoredFile → List Change → Option StoredFile
all_changed path stored [] = stored
all_changed path stored (change ∷ changes) = all_changed path (changed path stored change) changes

-- a file as it was put, and whether its name was synced since
abbrev pub seen_as : Option (Bor StoredFile × Bool) → Option StoredFile
seen_as None = None
seen_as (Some (file, is_named)) = Some (record file.now { is_named = is_named })

-- one change more
abbrev pub ChangesBy : Change → List Change → List Change → Type 0
ChangesBy change old new = (path : List ℕ) → all_changed path None new ≡ changed path (all_changed path None old) change

-- there is the same under each path
abbrev pub Unchanged : List Change → List Change → Type 0
Unchanged old new = (path : List ℕ) → all_changed path None new ≡ all_changed path None old

-- the path that a change puts something under
abbrev pub filled_by : Change → Option (List ℕ)
filled_by (Put path file) = Some path
filled_by (Moved from to file) = Some to
filled_by (Gone path) = None
filled_by (Named path) = None
