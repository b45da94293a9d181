use Rattle.std.proofs.Common.{◌+◌, ◌<◌, length, drop, sym, ◌∙◌, ap, arith}
use Rattle.disk_trait.specs.Replay.{overwritten}
use Rattle.disk_trait.proofs.Overlays.{overlay_next, length-overlay, length-overwritten}
use Rattle.disk_trait.proofs.memory.replay.Goals as goal

-- the bytes are no longer than what all changes lead to
pub overwrite-requires : goal.overwrite-requires
overwrite-requires c =
    let i = c.loop-change.change-index in
    let changes = c.args.changes.now in
    let bytes = c.loop-change.target.items in
    let within : c.loop-change.change-index < length c.args.changes.now = omega arith in
    let part = c.in-Write.bytes in
    let next = overlay_next changes i _ c.in-Write.at part bytes within (sym c.change-item.is ∙ c.in-Write.is) in
    omega (
      arith,
      c.requires,
      ap length c.as_slice.ensures,
      ap length (sym next ∙ c.loop-change.invariant.rest),
      c.loop-change.invariant.room,
      length-overwritten c.in-Write.at part bytes,
      length-overlay (drop (i + 1) changes) (overwritten c.in-Write.at part bytes),
    )
