use Rattle.std.proofs.Common.{◌<◌, ◌+◌, length}
use Rattle.std.proofs.lemmas.List.{length-map}
use Rattle.disk_trait.specs.Moments.{leaves_throughout, leaves_weaker}
use Rattle.member_journal.specs.Append.{IsAppending}
use Rattle.member_journal.specs.Entries.{IsBeforeOrAfter}
use Rattle.member_journal.specs.Format.{most_records}
use Rattle.member_journal.specs.Journal.{entries, next_place}
use Rattle.member_journal.proofs.Appends.{before_or_after}
use Rattle.member_journal.proofs.Journals.{holds_records}
use Rattle.member_journal.proofs.journal.Journal.append.Goals as goal

pub returns-in-Ok-clause-holds : goal.returns-in-Ok-clause-holds
returns-in-Ok-clause-holds g c told = holds_records _ told

pub returns-in-Ok-clause-leaves : goal.returns-in-Ok-clause-leaves
returns-in-Ok-clause-leaves g c told =
    let old = c.args.self in
    let few : length c.args.self.layout.rooms.items < most_records = simp length-map at c.requires.few in
    leaves_weaker g.D.Disk c.args.self.disk c.append_record.new.disk (IsAppending (g.D.Disk.content c.args.self.disk) (c.args.self.layout.gate + 1) c.args.payload.now)
    (IsBeforeOrAfter (entries c.args.self) (record { place = next_place c.args.self; bytes = c.args.payload.now }))
    (λ image appending. before_or_after (g.D.Disk.content c.args.self.disk) (g.D.Disk.image c.args.self.disk) c.args.self.layout.rooms.items c.args.self.layout.gate c.args.self.layout.is_bare
    c.args.payload.now (c.args.self.holds told) image few c.requires.not_empty c.requires.not_long appending)
    (leaves_throughout g.D.Disk c.args.self.disk c.append_record.new.disk (IsAppending (g.D.Disk.content c.args.self.disk) (c.args.self.layout.gate + 1) c.args.payload.now)
    (λ image later here. g.met.D.Disk.counts_now c.append_record.new.disk (g.D.Disk.clock c.args.self.disk) image told later here)
    (g.met.D.Disk.content_is_image c.append_record.new.disk told) (c.in-Ok.ensures.moments told))

pub returns-in-Err-clause-leaves : goal.returns-in-Err-clause-leaves
returns-in-Err-clause-leaves g c told =
    let old = c.args.self in
    let few : length c.args.self.layout.rooms.items < most_records = simp length-map at c.requires.few in
    leaves_weaker g.D.Disk c.args.self.disk c.append_record.new.disk (IsAppending (g.D.Disk.content c.args.self.disk) (c.args.self.layout.gate + 1) c.args.payload.now)
    (IsBeforeOrAfter (entries c.args.self) (record { place = next_place c.args.self; bytes = c.args.payload.now }))
    (λ image appending. before_or_after (g.D.Disk.content c.args.self.disk) (g.D.Disk.image c.args.self.disk) c.args.self.layout.rooms.items c.args.self.layout.gate c.args.self.layout.is_bare
    c.args.payload.now (c.args.self.holds told) image few c.requires.not_empty c.requires.not_long appending)
    (leaves_throughout g.D.Disk c.args.self.disk c.append_record.new.disk (IsAppending (g.D.Disk.content c.args.self.disk) (c.args.self.layout.gate + 1) c.args.payload.now)
    (λ image later here. g.met.D.Disk.counts_now c.append_record.new.disk (g.D.Disk.clock c.args.self.disk) image told later here)
    (g.met.D.Disk.content_is_image c.append_record.new.disk told) (c.in-Err.ensures.moments told))
