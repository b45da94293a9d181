use Rattle.std.proofs.Common.{ℕ, List, Ok, sym, ◌∙◌, ap}
use Rattle.member_journal.specs.Front.{entries_at}
use Rattle.member_journal.proofs.Journals.{holds_records}
use Rattle.member_journal.proofs.Stages.{holds_journal}
use Rattle.member_journal.proofs.journal.Journal.open.Goals as goal

pub returns-in-Ok-clause-records : goal.returns-in-Ok-clause-records
returns-in-Ok-clause-records g c told =
    let holds = c.in-Ok.ensures.holds told in
    holds_journal (g.D.Disk.content c.args.disk) (g.D.Disk.image c.scan.new.disk) c.in-Ok.layout.rooms.items c.in-Ok.layout.gate c.in-Ok.layout.is_bare holds
    ∙ ap (λ (bytes : List ℕ). Ok (entries_at bytes c.in-Ok.layout.rooms.items)) (sym (c.in-Ok.ensures.keeps.reads told).stays)

pub returns-in-Ok-clause-holds : goal.returns-in-Ok-clause-holds
returns-in-Ok-clause-holds g c told = holds_records _ told
