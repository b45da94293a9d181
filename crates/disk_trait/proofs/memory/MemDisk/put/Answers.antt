use Rattle.std.proofs.Common.{◌≡◌, ◌++◌, [], ◌∷◌, List, ℕ, ◌∙◌, ap}
use Rattle.disk_trait.specs.declared.memory.Change.TheVariants.{Write}
use Rattle.disk_trait.specs.Replay.{overwritten}
use Rattle.disk_trait.proofs.Moments.{shows_write}
use Rattle.disk_trait.proofs.memory.MemDisk.put.Goals as goal

pub invariant_of-self-2-clause-shows : goal.invariant_of-self-2-clause-shows
invariant_of-self-2-clause-shows c =
    let old = c.args.self.now in
    let same : c.grow.new.target.items ≡ c.args.self.now.first.items = c.grow.ensures.items in
    let grown : c.push.new.self.items ≡ c.args.self.now.changes.items ++ Write c.in_ok-at.at c.args.bytes.now ∷ [] =
    c.in_ok-push.ensures.items ∙ ap (λ (part : List ℕ). c.args.self.now.changes.items ++ Write c.in_ok-at.at part ∷ []) c.in_ok-part.ensures in
    shows_write old.first.items c.grow.new.target.items old.bytes.items c.overwrite.new.target.items old.changes.items c.push.new.self.items c.in_ok-at.at c.args.bytes.now same
    grown old.shows (c.overwrite.ensures.content ∙ ap (overwritten c.in_ok-at.at c.args.bytes.now) c.grow-2.ensures.items)
