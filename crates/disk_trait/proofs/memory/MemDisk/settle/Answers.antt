use Rattle.disk_trait.proofs.Moments.{shows_pushed}
use Rattle.disk_trait.proofs.memory.MemDisk.settle.Goals as goal

-- whether the push succeeded or not
pub invariant_of-self-clause-shows : goal.invariant_of-self-clause-shows
invariant_of-self-clause-shows c =
    let old = c.args.self.now in
    shows_pushed _ old.first.items old.bytes.items old.changes.items c.push.new.self.items c.push.ensures.items old.shows
