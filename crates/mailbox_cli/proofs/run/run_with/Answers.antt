use Rattle.std.proofs.Common.{◌≡◌, ℕ, List, Option, Some, None, Result, Ok, Err, sym, ◌∙◌, ap, subst}
use Rattle.std.specs.Option.{option_to_list}
use Rattle.disk_trait.specs.Disk.{LeavesOnly}
use Rattle.member_journal.specs.Journal.{disk_of}
use Rattle.member_journal.specs.declared.fault.JournalFault.{JournalFault}
use Rattle.mailbox_cli.specs.Call.{Devices, Moment, devices, moment}
use Rattle.mailbox_cli.specs.Words.{command_of}
use Rattle.mailbox_cli.proofs.Disks.{Laws}
use Rattle.mailbox_cli.proofs.Whole.{opened_carry, unopened_carry, unopened_cause, words_carry}
use Rattle.mailbox_cli.proofs.run.run_with.Goals as goal

pub returns-in-None-clause-carries : goal.returns-in-None-clause-carries
returns-in-None-clause-carries g c =
    let on : Devices _ _ _ _ = devices g.D.Disk g.P.Post g.E.Entropy g.S.Sink in
    let m : Moment _ _ _ _ = moment c.args.disk c.args.post.now c.args.entropy.now c.args.out.now in
    let laws : Laws g.D.Disk = record { shows = g.met.D.Disk.content_is_image; since = g.met.D.Disk.counts_now; only = g.met.D.Disk.only_now } in
    let none : command_of c.args.words.now ≡ None = sym c.read_command.ensures ∙ c.in-None.is in
    words_carry g.K.Kem on laws c.args.words.now m c.refuse.new.out c.refuse.result none c.refuse.ensures

pub returns-in-Err-clause-carries : goal.returns-in-Err-clause-carries
returns-in-Err-clause-carries g c =
    let on : Devices _ _ _ _ = devices g.D.Disk g.P.Post g.E.Entropy g.S.Sink in
    let m : Moment _ _ _ _ = moment c.args.disk c.args.post.now c.args.entropy.now c.args.out.now in
    let laws : Laws g.D.Disk = record { shows = g.met.D.Disk.content_is_image; since = g.met.D.Disk.counts_now; only = g.met.D.Disk.only_now } in
    let some : command_of c.args.words.now ≡ Some c.in-Some.command = sym c.read_command.ensures ∙ c.in-Some.is in
    unopened_carry g.K.Kem on laws c.args.words.now c.in-Some.command some m c.in-Err.disk c.end_opening.new.out c.end_opening.result
    c.in-Err.ensures.keeps.reads c.in-Err.fault c.end_opening.ensures (λ is. c.in-Err.ensures.cause.fault (ap Err is))
    (λ place is. (λ told. c.in-Err.ensures.not_journal told place is, c.in-Err.ensures.cause.judged place (ap Err is)))

pub returns-in-Err-clause-causes : goal.returns-in-Err-clause-causes
returns-in-Err-clause-causes g c =
    let on : Devices _ _ _ _ = devices g.D.Disk g.P.Post g.E.Entropy g.S.Sink in
    let m : Moment _ _ _ _ = moment c.args.disk c.args.post.now c.args.entropy.now c.args.out.now in
    let laws : Laws g.D.Disk = record { shows = g.met.D.Disk.content_is_image; since = g.met.D.Disk.counts_now; only = g.met.D.Disk.only_now } in
    let some : command_of c.args.words.now ≡ Some c.in-Some.command = sym c.read_command.ensures ∙ c.in-Some.is in
    unopened_cause g.K.Kem on laws c.args.words.now c.in-Some.command some m c.in-Err.disk c.end_opening.new.out c.end_opening.result
    c.in-Err.ensures.keeps.reads c.in-Err.fault c.end_opening.ensures (λ is. c.in-Err.ensures.cause.fault (ap Err is))
    (λ place is. (λ told. c.in-Err.ensures.not_journal told place is, c.in-Err.ensures.cause.judged place (ap Err is)))

pub returns-in-Ok-clause-carries : goal.returns-in-Ok-clause-carries
returns-in-Ok-clause-carries g c =
    let on : Devices _ _ _ _ = devices g.D.Disk g.P.Post g.E.Entropy g.S.Sink in
    let m : Moment _ _ _ _ = moment c.args.disk c.args.post.now c.args.entropy.now c.args.out.now in
    let last : Moment _ _ _ _ = moment c.carry_out.result.0 c.carry_out.new.post c.carry_out.new.entropy c.carry_out.new.out in
    let laws : Laws g.D.Disk = record { shows = g.met.D.Disk.content_is_image; since = g.met.D.Disk.counts_now; only = g.met.D.Disk.only_now } in
    let some : command_of c.args.words.now ≡ Some c.in-Some.command = sym c.read_command.ensures ∙ c.in-Some.is in
    opened_carry g.K.Kem on laws c.args.words.now c.in-Some.command some m (disk_of c.in-Ok.opened.journal) (option_to_list c.in-Ok.opened.member) last
    c.carry_out.result.1 c.in-Ok.ensures.steps
    (λ told. subst (λ (bytes : List ℕ). LeavesOnly bytes (g.D.Disk.image (disk_of c.in-Ok.opened.journal))) (sym (c.in-Ok.ensures.keeps.reads told).stays)
    (c.in-Ok.ensures.settled told)) c.in-Ok.ensures.keeps.reads c.in-Ok.ensures.cause.succeeded c.carry_out.ensures
