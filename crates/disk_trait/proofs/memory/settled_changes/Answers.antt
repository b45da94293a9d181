use Rattle.std.proofs.Common.{◌+◌, ◌-◌, ◌≡◌, ◌<◌, ℕ, length, take, subst, arith}
use Rattle.disk_trait.specs.Replay.{Settles}
use Rattle.disk_trait.proofs.Overlays.{settles_at_sync}
use Rattle.disk_trait.proofs.memory.settled_changes.Goals as goal

-- the last sync is the change before
pub returns-in-Sync-clause-settled : goal.returns-in-Sync-clause-settled
returns-in-Sync-clause-settled c =
    let changes = c.args.changes.now in
    let next : c.loop-count.count - 1 + 1 ≡ c.loop-count.count = omega arith in
    let within : c.loop-count.count - 1 < length changes = omega arith in
    subst (λ (n : ℕ). Settles (take n changes)) next (settles_at_sync changes (c.loop-count.count - 1) _ within c.in-Sync.is)
