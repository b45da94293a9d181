-- Calls on one disk, one after another, with crashes in them and between them.
use Rattle.std.specs.Prelude.{◌≡◌, ℕ, ◌≤◌, Bool, true, false, List, [], ◌++◌, length, take}
use Rattle.disk_trait.specs.Disk.{LeavesOnly}
use Rattle.kem_trait.specs.declared.kem.Kem.{Ghosts as KemGhosts}
use Rattle.mailbox_cli.specs.Call.{Call, Carries, Devices}
use Rattle.mailbox_cli.specs.Steps.{Step}
use Rattle.mailbox_cli.specs.Story.{Event, plans_in}

-- Of the steps that a call planned the first are kept. Where it returned these are all that happened, and maybe the one
-- behind them, which was begun.
pub record Keeps (returned : Bool) (events rest : List Event) (kept : List Step) : Type 0 where
  pub count : ℕ
  pub first : kept ≡ take count (plans_in (events ++ take 1 rest))
  pub all : returned ≡ true → length (plans_in events) ≤ count

module _ {K L D P E S : Type 0} (kem : KemGhosts K L) (on : Devices D P E S) where
  -- Each call begins with the disk that the one before left, or with one that has what a crash leaves: at some moment of
  -- that call, or after it returned.
  pub data Runs (start : D) : D → Type 0 where
    begins : Runs start start
    returns : {disk : D} → Runs start disk → (call : Call D P E S) → call.before.disk ≡ disk → Carries kem on call
        → Runs start call.after.disk
    crashes : {disk : D} → Runs start disk → (call : Call D P E S) → call.before.disk ≡ disk → Carries kem on call
        → (image : List ℕ) → on.disk.image_since call.after.disk (on.disk.clock call.before.disk) image
        → (next : D) → on.disk.content next ≡ image → LeavesOnly image (on.disk.image next) → Runs start next
    restarts : {disk : D} → Runs start disk → (call : Call D P E S) → call.before.disk ≡ disk → Carries kem on call
        → (image : List ℕ) → on.disk.image call.after.disk image
        → (next : D) → on.disk.content next ≡ image → LeavesOnly image (on.disk.image next) → Runs start next

  -- the steps that were kept of all calls, in order
  abbrev pub Kept : {start disk : D} → Runs start disk → List Step → Type 0
  Kept begins steps = steps ≡ []
  Kept (returns runs call is carries) steps = (before kept : List Step) × Kept runs before
      × Keeps true carries.events carries.rest kept × (steps ≡ before ++ kept)
  Kept (restarts runs call is carries image left next reads only) steps = (before kept : List Step) × Kept runs before
      × Keeps true carries.events carries.rest kept × (steps ≡ before ++ kept)
  Kept (crashes runs call is carries image since next reads only) steps = (before kept : List Step) × Kept runs before
      × Keeps false carries.events carries.rest kept × (steps ≡ before ++ kept)
