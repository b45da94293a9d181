use Rattle.std.proofs.Common.{length, refl, arith}
use Rattle.member_journal.proofs.Calls.{wrote_first, synced}
use Rattle.member_journal.proofs.append.store.Goals as goal

pub returns-in_err-sync-clause-moments : goal.returns-in_err-sync-clause-moments
returns-in_err-sync-clause-moments g c told =
    let s1 = wrote_first g.D.Disk c.args.at (length c.args.bytes.now) c.args.disk.now c.write_at.new.self (length c.args.bytes.now) (length c.args.bytes.now) refl (omega arith)
    (λ image since. g.met.D.Disk.only_now c.args.disk.now image told since) (c.requires.settled told) (c.write_at.ensures.crash told) (c.write_at.ensures.time told) in
    (synced g.D.Disk c.args.at (length c.args.bytes.now) c.args.disk.now c.write_at.new.self c.sync.new.self (length c.args.bytes.now) (omega arith) s1
    (c.sync.ensures.crash told) (c.sync.ensures.time told)).moments

pub returns-clause-moments : goal.returns-clause-moments
returns-clause-moments g c told =
    let s1 = wrote_first g.D.Disk c.args.at (length c.args.bytes.now) c.args.disk.now c.write_at.new.self (length c.args.bytes.now) (length c.args.bytes.now) refl (omega arith)
    (λ image since. g.met.D.Disk.only_now c.args.disk.now image told since) (c.requires.settled told) (c.write_at.ensures.crash told) (c.write_at.ensures.time told) in
    (synced g.D.Disk c.args.at (length c.args.bytes.now) c.args.disk.now c.write_at.new.self c.sync.new.self (length c.args.bytes.now) (omega arith) s1
    (c.sync.ensures.crash told) (c.sync.ensures.time told)).moments
