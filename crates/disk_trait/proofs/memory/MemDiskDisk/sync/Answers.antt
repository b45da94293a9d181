use Rattle.std.proofs.Common.{◌≡◌, inl, ◌++◌, [], ◌∷◌, ◌∙◌, ap, sym}
use Rattle.disk_trait.specs.declared.memory.Change.TheVariants.{Sync}
use Rattle.system_calls.specs.Plan.{made_in}
use Rattle.disk_trait.specs.Replay.{fresh}
use Rattle.disk_trait.proofs.Moments.{standing, durable, nothing_new, passes}
use Rattle.disk_trait.proofs.memory.MemDiskDisk.sync.Goals as goal

first_kept : (c : goal.In-Ok) → c.settle.new.self.first.items ≡ c.args.self.now.first.items
first_kept c = c.in-Ok.ensures.first

grown : (c : goal.In-Ok) → c.settle.new.self.changes.items ≡ c.args.self.now.changes.items ++ Sync ∷ []
grown c = c.in-Ok.ensures.change

pub returns-in-Ok-clause-durable : goal.returns-in-Ok-clause-durable
returns-in-Ok-clause-durable c = durable _ _ _ _ _ (first_kept c) (grown c) c.args.self.now.shows

pub returns-in-Ok-clause-crash : goal.returns-in-Ok-clause-crash
returns-in-Ok-clause-crash c = nothing_new _ _ _ _ _ (first_kept c) (grown c) c.args.self.now.shows

pub returns-in-Ok-clause-time : goal.returns-in-Ok-clause-time
returns-in-Ok-clause-time c = passes _ _ _ _ Sync (first_kept c) (grown c)

pub returns-in-Ok-clause-settled : goal.returns-in-Ok-clause-settled
returns-in-Ok-clause-settled c = standing _ _ _ _ Sync (first_kept c) (grown c) ∙ ap fresh (sym c.args.self.now.shows)

pub returns-in-Ok-clause-syncs : goal.returns-in-Ok-clause-syncs
returns-in-Ok-clause-syncs c = record {
  call = ap made_in c.in-Ok.ensures.plan ∙ c.in_ok-begin.ensures.planned.number;
  standing = inl (standing _ _ _ _ Sync (first_kept c) (grown c) ∙ ap fresh (sym c.args.self.now.shows));
}
