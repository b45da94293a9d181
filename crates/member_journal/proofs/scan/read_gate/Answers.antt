use Rattle.std.proofs.Common.{◌≡◌, ◌+◌, ◌-◌, ◌<◌, ℕ, true, false, length, refl, sym, ◌∙◌, subst, arith}
use Rattle.member_journal.specs.Scan.{ReadsGate}
use Rattle.member_journal.proofs.Heads.{first, reads_gate, holds_read}
use Rattle.member_journal.proofs.scan.read_gate.Goals as goal

pub returns-then-is_record-clause-opened : goal.returns-then-is_record-clause-opened
returns-then-is_record-clause-opened g c told n is =
    let content = g.D.Disk.content c.args.disk.now in
    let before_end : c.args.gate < length (g.D.Disk.content c.args.disk.now) = omega (arith, c.requires.told told, c.requires.before_end) in
    let parts = c.if-is_record.ensures.0 refl in
    let same : c.from_be_bytes-length.result ≡ n = cc in
    subst (λ (m : ℕ). ReadsGate (g.D.Disk.content c.args.disk.now) c.args.gate m) same
    (reads_gate content _ c.read.new.into c.args.gate c.in_ok-count.count (c.in_ok-count.ensures.bytes told) refl before_end c.from_be_bytes-length.result
    c.if-head-ne-OPEN.false parts.0 c.from_be_bytes-length.ensures parts.1 parts.2 (omega (arith, parts.3, c.requires.told told)))

pub returns-else-is_record-clause-other : goal.returns-else-is_record-clause-other
returns-else-is_record-clause-other g c place is = (
  cc,
  λ told.
      let content = g.D.Disk.content c.args.disk.now in
      let before_end : c.args.gate < length (g.D.Disk.content c.args.disk.now) = omega (arith, c.requires.told told, c.requires.before_end) in
      let reads = c.in_ok-count.ensures.bytes told in (
        sym (first content _ c.read.new.into c.args.gate c.in_ok-count.count reads refl before_end) ∙ c.if-head-ne-OPEN.false,
        λ holds.
            let parts = holds_read content _ c.read.new.into c.args.gate c.in_ok-count.count reads refl before_end c.from_be_bytes-length.result c.from_be_bytes-length.ensures holds in
            let fits : c.from_be_bytes-length.result + 5 < c.args.len - c.args.gate = omega (arith, parts.3, c.requires.told told) in
            let holds_not : false ≡ true = c.if-is_record.ensures.1 (parts.0, parts.1, parts.2, fits) in
            cc,
      ),
)
