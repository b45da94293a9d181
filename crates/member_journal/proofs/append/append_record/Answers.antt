use Rattle.std.proofs.Common.{◌≡◌, ◌+◌, ◌-◌, ◌<◌, ℕ, List, length, ap, subst, arith}
use Rattle.std.proofs.lemmas.List.Elements.{recursion_from_All}
use Rattle.disk_trait.specs.Disk.{Torn, Wrote}
use Rattle.disk_trait.specs.Moments.{throughout_join, throughout_weaker}
use Rattle.member_journal.specs.Append.{framed, IsAppending, IsBeginning, stores, opens}
use Rattle.member_journal.specs.Format.{most_records}
use Rattle.member_journal.specs.Room.{FitsBefore}
use Rattle.member_journal.proofs.Appends.{appended, beginning, has_begun, record_written}
use Rattle.member_journal.proofs.Runs.{on_ok}
use Rattle.member_journal.proofs.append.append_record.Goals as goal

pub store_record-requires-clause-inside : goal.store_record-requires-clause-inside
store_record-requires-clause-inside g c told =
    let begun = has_begun (g.D.Disk.content c.args.disk.now) (g.D.Disk.image c.args.disk.now) c.args.layout.now.rooms.items c.args.layout.now.gate c.args.layout.now.is_bare (c.requires.holds told) in
    omega (arith, begun.0.within, ap length (c.in_ok-begin.ensures.begun told))

pub store-requires-clause-inside : goal.store-requires-clause-inside
store-requires-clause-inside g c told =
    let begun = has_begun (g.D.Disk.content c.args.disk.now) (g.D.Disk.image c.args.disk.now) c.args.layout.now.rooms.items c.args.layout.now.gate c.args.layout.now.is_bare (c.requires.holds told) in
    omega (arith, begun.0.within, ap length (c.in_ok-begin.ensures.begun told), (c.in_ok-store_record.ensures.written told).elsewhere.no_shorter)

pub returns-in_err-begin-clause-moments : goal.returns-in_err-begin-clause-moments
returns-in_err-begin-clause-moments g c told =
    let starting = throughout_weaker g.D.Disk c.args.disk.now c.begin.new.disk (IsBeginning (g.D.Disk.content c.args.disk.now)) (IsAppending (g.D.Disk.content c.args.disk.now) (c.args.layout.now.gate + 1) c.args.payload.now)
    (beginning (g.D.Disk.content c.args.disk.now) (c.args.layout.now.gate + 1) c.args.payload.now) (c.begin.ensures.moments told) in
    starting

pub returns-in_err-store_record-clause-moments : goal.returns-in_err-store_record-clause-moments
returns-in_err-store_record-clause-moments g c told =
    let starting = throughout_weaker g.D.Disk c.args.disk.now c.begin.new.disk (IsBeginning (g.D.Disk.content c.args.disk.now)) (IsAppending (g.D.Disk.content c.args.disk.now) (c.args.layout.now.gate + 1) c.args.payload.now)
    (beginning (g.D.Disk.content c.args.disk.now) (c.args.layout.now.gate + 1) c.args.payload.now) (c.begin.ensures.moments told) in
    let storing = throughout_weaker g.D.Disk c.begin.new.disk c.store_record.new.disk (Torn (c.args.layout.now.gate + 1) (length c.args.payload.now + 5) (g.D.Disk.content c.begin.new.disk))
    (IsAppending (g.D.Disk.content c.args.disk.now) (c.args.layout.now.gate + 1) c.args.payload.now)
    (λ image torn. stores (subst (λ (bytes : List ℕ). Torn (c.args.layout.now.gate + 1) (length c.args.payload.now + 5) bytes image) (c.in_ok-begin.ensures.begun told) torn))
    (c.store_record.ensures.moments told) in
    let two = throughout_join g.D.Disk c.args.disk.now c.begin.new.disk c.store_record.new.disk (IsAppending (g.D.Disk.content c.args.disk.now) (c.args.layout.now.gate + 1) c.args.payload.now) starting storing in
    two

pub returns-clause-moments : goal.returns-clause-moments
returns-clause-moments g c told =
    let starting = throughout_weaker g.D.Disk c.args.disk.now c.begin.new.disk (IsBeginning (g.D.Disk.content c.args.disk.now)) (IsAppending (g.D.Disk.content c.args.disk.now) (c.args.layout.now.gate + 1) c.args.payload.now)
    (beginning (g.D.Disk.content c.args.disk.now) (c.args.layout.now.gate + 1) c.args.payload.now) (c.begin.ensures.moments told) in
    let storing = throughout_weaker g.D.Disk c.begin.new.disk c.store_record.new.disk (Torn (c.args.layout.now.gate + 1) (length c.args.payload.now + 5) (g.D.Disk.content c.begin.new.disk))
    (IsAppending (g.D.Disk.content c.args.disk.now) (c.args.layout.now.gate + 1) c.args.payload.now)
    (λ image torn. stores (subst (λ (bytes : List ℕ). Torn (c.args.layout.now.gate + 1) (length c.args.payload.now + 5) bytes image) (c.in_ok-begin.ensures.begun told) torn))
    (c.store_record.ensures.moments told) in
    let two = throughout_join g.D.Disk c.args.disk.now c.begin.new.disk c.store_record.new.disk (IsAppending (g.D.Disk.content c.args.disk.now) (c.args.layout.now.gate + 1) c.args.payload.now) starting storing in
    let back : c.args.layout.now.gate ≡ c.args.layout.now.gate + 1 - 1 = omega arith in
    let stored = subst (λ (bytes : List ℕ). Wrote (c.args.layout.now.gate + 1) (framed c.args.payload.now) bytes (g.D.Disk.content c.store_record.new.disk)) (c.in_ok-begin.ensures.begun told)
    (c.in_ok-store_record.ensures.written told) in
    let opening = throughout_weaker g.D.Disk c.store_record.new.disk c.store.new.disk (Torn c.args.layout.now.gate 1 (g.D.Disk.content c.store_record.new.disk))
    (IsAppending (g.D.Disk.content c.args.disk.now) (c.args.layout.now.gate + 1) c.args.payload.now)
    (λ image torn. opens (g.D.Disk.content c.store_record.new.disk) stored (subst (λ (gate : ℕ). Torn gate 1 (g.D.Disk.content c.store_record.new.disk) image) back torn))
    (c.store.ensures.moments told) in
    throughout_join g.D.Disk c.args.disk.now c.store_record.new.disk c.store.new.disk (IsAppending (g.D.Disk.content c.args.disk.now) (c.args.layout.now.gate + 1) c.args.payload.now) two opening

pub returns-clause-bytes : goal.returns-clause-bytes
returns-clause-bytes g c told =
    let stored = subst (λ (bytes : List ℕ). Wrote (c.args.layout.now.gate + 1) (framed c.args.payload.now) bytes (g.D.Disk.content c.store_record.new.disk)) (c.in_ok-begin.ensures.begun told)
    (c.in_ok-store_record.ensures.written told) in
    on_ok c.store.result _ _
    (λ written. record_written (g.D.Disk.content c.args.disk.now) (g.D.Disk.image c.args.disk.now) c.args.layout.now.rooms.items c.args.layout.now.gate c.args.layout.now.is_bare c.args.payload.now (c.requires.holds told)
    (g.D.Disk.content c.store_record.new.disk) (g.D.Disk.content c.store.new.disk) stored written)
    (c.store.ensures.written told)

pub returns-clause-appended : goal.returns-clause-appended
returns-clause-appended g c told =
    let stored = subst (λ (bytes : List ℕ). Wrote (c.args.layout.now.gate + 1) (framed c.args.payload.now) bytes (g.D.Disk.content c.store_record.new.disk)) (c.in_ok-begin.ensures.begun told)
    (c.in_ok-store_record.ensures.written told) in
    let few : length c.args.layout.now.rooms.items < most_records = omega (arith, c.requires.few) in
    let fit = recursion_from_All (FitsBefore c.args.layout.now.gate) c.args.layout.now.rooms.items c.args.layout.now.fit in
    on_ok c.store.result _ _
    (λ written. appended (g.D.Disk.content c.args.disk.now) (g.D.Disk.image c.args.disk.now) c.args.layout.now.rooms.items c.args.layout.now.gate c.args.layout.now.is_bare c.args.payload.now (c.requires.holds told)
    (g.D.Disk.content c.store_record.new.disk) (g.D.Disk.content c.store.new.disk) stored written few c.requires.not_empty c.requires.not_long fit)
    (c.store.ensures.written told)
