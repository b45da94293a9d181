use Rattle.std.proofs.Common.{◌≡◌, ◌<◌, ℕ, false, nat_eq, List, length, Err, refl, sym, ◌∙◌, ap, subst, arith}
use Rattle.std.specs.List.{starts_with}
use Rattle.member_journal.specs.Format.{magic, journal_of}
use Rattle.member_journal.proofs.Entries.{other_magic}
use Rattle.member_journal.proofs.Heads.{start_read}
use Rattle.member_journal.proofs.scan.read_magic.Goals as goal

pub returns-then-not-starts_with-clause-other : goal.returns-then-not-starts_with-clause-other
returns-then-not-starts_with-clause-other g c told place is =
    let content = g.D.Disk.content in
    let same : content c.len.new.self ≡ content c.args.disk.now = c.in_ok-len.ensures.content told ∙ c.in_ok-sync.ensures.content told in
    let long : 9 < length (content c.args.disk.now) = omega (arith, c.in_ok-len.ensures.length told, c.if-len-le9.false, ap length (c.in_ok-sync.ensures.content told)) in
    let reads = c.in_ok-read.ensures.bytes told in
    let start : starts_with nat_eq (content c.args.disk.now) magic ≡ starts_with nat_eq c.read.new.into magic =
    ap (λ (l : List ℕ). starts_with nat_eq l magic) (sym same)
    ∙ sym (start_read (content c.len.new.self) _ c.read.new.into c.in_ok-read.field-0 reads refl (omega (arith, c.if-branch-lt8.false))) in
    let other : starts_with nat_eq c.read.new.into magic ≡ false = sym c.starts_with.ensures.value ∙ c.if-not-starts_with.true in
    let zero_place : 0 ≡ place = cc in
    subst (λ (p : ℕ). journal_of (g.D.Disk.content c.args.disk.now) ≡ Err p) zero_place (other_magic (content c.args.disk.now) long (start ∙ other))
