use Rattle.std.proofs.Common.{length, ap, arith}
use Rattle.disk_trait.specs.Replay.{overlay, fresh}
use Rattle.disk_trait.proofs.Overlays.{content_of-replayed}
use Rattle.disk_trait.proofs.memory.MemDisk.crash.Goals as goal

pub crash_through-requires : goal.crash_through-requires
crash_through-requires c =
    let old = c.args.self.now in
    omega (arith, old.room, ap length old.shows, ap length (content_of-replayed old.changes.items (fresh old.first.items)), ap (λ cs. length (overlay old.first.items cs)) c.deref.ensures.value)

-- an image is no longer than the content
pub refill-requires : goal.refill-requires
refill-requires c =
    let old = c.args.self.now in
    omega (
      arith,
      old.room,
      ap length old.shows,
      ap length (content_of-replayed old.changes.items (fresh old.first.items)),
      ap (λ cs. length (overlay old.first.items cs)) c.deref.ensures.value,
      c.crash_through.ensures.length,
      c.deref-2.ensures.len,
      old.bytes.ok,
      old.bytes.small,
    )
