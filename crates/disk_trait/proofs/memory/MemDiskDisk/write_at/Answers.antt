use Rattle.std.proofs.Common.{◌≡◌, ◌++◌, [], ◌∷◌}
use Rattle.disk_trait.specs.declared.memory.Change.TheVariants.{Write}
use Rattle.disk_trait.proofs.Moments.{standing, tears, passes}
use Rattle.disk_trait.proofs.memory.MemDiskDisk.write_at.Goals as goal

first_kept : (c : goal.In-Ok) → c.put.new.self.first.items ≡ c.args.self.now.first.items
first_kept c = c.in-Ok.ensures.first

grown : (c : goal.In-Ok) → c.put.new.self.changes.items ≡ c.args.self.now.changes.items ++ Write c.args.at c.args.bytes.now ∷ []
grown c = c.in-Ok.ensures.change

pub returns-in-Ok-clause-crash : goal.returns-in-Ok-clause-crash
returns-in-Ok-clause-crash c = tears _ _ _ _ c.args.at c.args.bytes.now (first_kept c) (grown c)

pub returns-in-Ok-clause-time : goal.returns-in-Ok-clause-time
returns-in-Ok-clause-time c = passes _ _ _ _ (Write c.args.at c.args.bytes.now) (first_kept c) (grown c)

pub returns-in-Ok-clause-pending : goal.returns-in-Ok-clause-pending
returns-in-Ok-clause-pending c = standing _ _ _ _ (Write c.args.at c.args.bytes.now) (first_kept c) (grown c)
