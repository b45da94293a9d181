use Rattle.std.proofs.Common.{◌≡◌, ◌+◌, ℕ, [], ◌∷◌, ◌++◌, List, length, refl, sym, ap, subst, arith, length-append}
use Rattle.std.specs.Int.{to_be_bytes, w32}
use Rattle.disk_trait.specs.Disk.{Wrote}
use Rattle.member_journal.specs.Append.{framed}
use Rattle.member_journal.proofs.Calls.{wrote_first, wrote_next, synced}
use Rattle.member_journal.proofs.Writes.{wrote_on}
use Rattle.member_journal.proofs.append.store_record.Goals as goal

pub returns-in_err-write_at-clause-moments : goal.returns-in_err-write_at-clause-moments
returns-in_err-write_at-clause-moments g c told =
    let s1 = wrote_first g.D.Disk c.args.at (length c.args.payload.now + 5) c.args.disk.now c.write_at.new.self 4 _ (ap length c.to_be_bytes.ensures) (omega arith)
    (λ image since. g.met.D.Disk.only_now c.args.disk.now image told since) (c.requires.settled told) (c.write_at.ensures.crash told) (c.write_at.ensures.time told) in
    s1.moments

pub returns-in_err-write_at-2-clause-moments : goal.returns-in_err-write_at-2-clause-moments
returns-in_err-write_at-2-clause-moments g c told =
    let s1 = wrote_first g.D.Disk c.args.at (length c.args.payload.now + 5) c.args.disk.now c.write_at.new.self 4 _ (ap length c.to_be_bytes.ensures) (omega arith)
    (λ image since. g.met.D.Disk.only_now c.args.disk.now image told since) (c.requires.settled told) (c.write_at.ensures.crash told) (c.write_at.ensures.time told) in
    let s2 = wrote_next g.D.Disk c.args.at (length c.args.payload.now + 5) c.args.disk.now c.write_at.new.self c.write_at-2.new.self 4 (length c.args.payload.now) (c.args.at + 4) refl (omega arith) (c.requires.inside told) s1
    (c.write_at-2.ensures.crash told) (c.write_at-2.ensures.time told) in
    s2.moments

pub returns-in_err-write_at-3-clause-moments : goal.returns-in_err-write_at-3-clause-moments
returns-in_err-write_at-3-clause-moments g c told =
    let s1 = wrote_first g.D.Disk c.args.at (length c.args.payload.now + 5) c.args.disk.now c.write_at.new.self 4 _ (ap length c.to_be_bytes.ensures) (omega arith)
    (λ image since. g.met.D.Disk.only_now c.args.disk.now image told since) (c.requires.settled told) (c.write_at.ensures.crash told) (c.write_at.ensures.time told) in
    let s2 = wrote_next g.D.Disk c.args.at (length c.args.payload.now + 5) c.args.disk.now c.write_at.new.self c.write_at-2.new.self 4 (length c.args.payload.now) (c.args.at + 4) refl (omega arith) (c.requires.inside told) s1
    (c.write_at-2.ensures.crash told) (c.write_at-2.ensures.time told) in
    let s3 = wrote_next g.D.Disk c.args.at (length c.args.payload.now + 5) c.args.disk.now c.write_at-2.new.self c.write_at-3.new.self (4 + length c.args.payload.now) 1 _ (omega (arith, c.from.ensures)) (omega arith) (c.requires.inside told) s2
    (c.write_at-3.ensures.crash told) (c.write_at-3.ensures.time told) in
    s3.moments

pub returns-in_err-sync-clause-moments : goal.returns-in_err-sync-clause-moments
returns-in_err-sync-clause-moments g c told =
    let s1 = wrote_first g.D.Disk c.args.at (length c.args.payload.now + 5) c.args.disk.now c.write_at.new.self 4 _ (ap length c.to_be_bytes.ensures) (omega arith)
    (λ image since. g.met.D.Disk.only_now c.args.disk.now image told since) (c.requires.settled told) (c.write_at.ensures.crash told) (c.write_at.ensures.time told) in
    let s2 = wrote_next g.D.Disk c.args.at (length c.args.payload.now + 5) c.args.disk.now c.write_at.new.self c.write_at-2.new.self 4 (length c.args.payload.now) (c.args.at + 4) refl (omega arith) (c.requires.inside told) s1
    (c.write_at-2.ensures.crash told) (c.write_at-2.ensures.time told) in
    let s3 = wrote_next g.D.Disk c.args.at (length c.args.payload.now + 5) c.args.disk.now c.write_at-2.new.self c.write_at-3.new.self (4 + length c.args.payload.now) 1 _ (omega (arith, c.from.ensures)) (omega arith) (c.requires.inside told) s2
    (c.write_at-3.ensures.crash told) (c.write_at-3.ensures.time told) in
    let s4 = synced g.D.Disk c.args.at (length c.args.payload.now + 5) c.args.disk.now c.write_at-3.new.self c.sync.new.self (4 + length c.args.payload.now + 1) (omega arith) s3
    (c.sync.ensures.crash told) (c.sync.ensures.time told) in
    s4.moments

pub returns-clause-moments : goal.returns-clause-moments
returns-clause-moments g c told =
    let s1 = wrote_first g.D.Disk c.args.at (length c.args.payload.now + 5) c.args.disk.now c.write_at.new.self 4 _ (ap length c.to_be_bytes.ensures) (omega arith)
    (λ image since. g.met.D.Disk.only_now c.args.disk.now image told since) (c.requires.settled told) (c.write_at.ensures.crash told) (c.write_at.ensures.time told) in
    let s2 = wrote_next g.D.Disk c.args.at (length c.args.payload.now + 5) c.args.disk.now c.write_at.new.self c.write_at-2.new.self 4 (length c.args.payload.now) (c.args.at + 4) refl (omega arith) (c.requires.inside told) s1
    (c.write_at-2.ensures.crash told) (c.write_at-2.ensures.time told) in
    let s3 = wrote_next g.D.Disk c.args.at (length c.args.payload.now + 5) c.args.disk.now c.write_at-2.new.self c.write_at-3.new.self (4 + length c.args.payload.now) 1 _ (omega (arith, c.from.ensures)) (omega arith) (c.requires.inside told) s2
    (c.write_at-3.ensures.crash told) (c.write_at-3.ensures.time told) in
    let s4 = synced g.D.Disk c.args.at (length c.args.payload.now + 5) c.args.disk.now c.write_at-3.new.self c.sync.new.self (4 + length c.args.payload.now + 1) (omega arith) s3
    (c.sync.ensures.crash told) (c.sync.ensures.time told) in
    s4.moments

pub returns-clause-written : goal.returns-clause-written
returns-clause-written g c told =
    let payload = c.args.payload.now in
    let inside = c.requires.inside told in
    let content = g.D.Disk.content in
    let first = subst (λ (bytes : List ℕ). Wrote c.args.at bytes (content c.args.disk.now) (content c.write_at.new.self)) c.to_be_bytes.ensures (c.in_ok-write_at.ensures.written told) in
    let second = c.in_ok-write_at-2.ensures.written told in
    let third = c.in_ok-write_at-3.ensures.written told in
    let number = to_be_bytes w32 (length c.args.payload.now) in
    let two = wrote_on c.args.at number payload (content c.args.disk.now) (content c.write_at.new.self) (content c.write_at-2.new.self) inside first second in
    let place : c.args.at + 4 + c.from.result ≡ c.args.at + length (number ++ c.args.payload.now) = omega (arith, c.from.ensures, length-append number c.args.payload.now) in
    let all = wrote_on c.args.at (number ++ payload) (0 ∷ []) (content c.args.disk.now) (content c.write_at-2.new.self) (content c.write_at-3.new.self) inside two
    (subst (λ (p : ℕ). Wrote p (0 ∷ []) (content c.write_at-2.new.self) (content c.write_at-3.new.self)) place third) in
    subst (λ (bytes : List ℕ). Wrote c.args.at (framed c.args.payload.now) (content c.args.disk.now) bytes) (sym (c.sync.ensures.content told)) all
