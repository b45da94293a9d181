use Rattle.std.proofs.Common.{sym, ◌∙◌, arith}
use Rattle.disk_trait.specs.Disk.{Torn}
use Rattle.disk_trait.specs.Moments.{throughout_none, throughout_weaker}
use Rattle.member_journal.specs.Append.{IsBeginning, starts, started}
use Rattle.member_journal.proofs.Appends.{with_header-short, with_header-long}
use Rattle.member_journal.proofs.Runs.{on_ok}
use Rattle.member_journal.proofs.Stages.{header_is}
use Rattle.member_journal.proofs.append.begin.Goals as goal

pub returns-then-layout-clause-begun : goal.returns-then-layout-clause-begun
returns-then-layout-clause-begun g c told =
    let old = g.D.Disk.content c.args.disk.now in
    let short = ((c.requires.holds told).bare c.if-layout.true).0 in
    on_ok c.store.result _ _
    (λ written. header_is (g.D.Disk.content c.args.disk.now) (g.D.Disk.content c.store.new.disk) short written ∙ sym (with_header-short (g.D.Disk.content c.args.disk.now) short))
    (c.store.ensures.written told)

pub returns-then-layout-clause-moments : goal.returns-then-layout-clause-moments
returns-then-layout-clause-moments g c told =
    let short = ((c.requires.holds told).bare c.if-layout.true).0 in
    throughout_weaker g.D.Disk c.args.disk.now c.store.new.disk (Torn 0 9 (g.D.Disk.content c.args.disk.now)) (IsBeginning (g.D.Disk.content c.args.disk.now))
    (λ image torn. starts short (omega (arith, short, torn.no_longer))) (c.store.ensures.moments told)

pub returns-else-layout-clause-begun : goal.returns-else-layout-clause-begun
returns-else-layout-clause-begun g c told =
    sym (with_header-long (g.D.Disk.content c.args.disk.now) ((c.requires.holds told).long c.if-layout.false))

pub returns-else-layout-clause-moments : goal.returns-else-layout-clause-moments
returns-else-layout-clause-moments g c told =
    let holds = c.requires.holds told in
    throughout_none g.D.Disk c.args.disk.now (IsBeginning (g.D.Disk.content c.args.disk.now))
    (λ image since. started (holds.settled image (g.met.D.Disk.only_now c.args.disk.now image told since)
    ∙ sym (with_header-long (g.D.Disk.content c.args.disk.now) (holds.long c.if-layout.false))))
