use Rattle.std.proofs.Common.{◌≡◌, ◌⊎◌, ⊎_elim, ◌+◌, ◌-◌, ◌<◌, ◌≤◌, ℕ, true, false, List, length, drop, slice_index, Result, Ok, Err, rules, refl, sym, ◌∙◌, ap, subst, arith}
use Rattle.member_journal.specs.Format.{most_records, journal_of, HoldsRecord}
use Rattle.member_journal.specs.Front.{Front, entries_at}
use Rattle.member_journal.specs.Scan.{ReadsGate}
use Rattle.member_journal.specs.declared.fault.JournalFault.{JournalFault}
use Rattle.member_journal.specs.declared.fault.JournalFault.TheVariants.{NotJournal}
use Rattle.member_journal.specs.declared.scan.Gate.{Gate}
use Rattle.member_journal.proofs.Fronts.{front_begin, front_add, front_full, front_no_record}
use Rattle.member_journal.proofs.Runs.{keeps_none, keeps_on}
use Rattle.member_journal.proofs.scan.find_records.Goals as goal

abbrev ok_gate : Gate → Result Gate JournalFault
ok_gate gate = Ok gate

abbrev err_gate : JournalFault → Result Gate JournalFault
err_gate fault = Err fault

pub loop-layout-init : goal.loop-layout-init
loop-layout-init g c = record {
  keeps = keeps_none g.D.Disk c.args.disk.now
      (λ image told since. g.met.D.Disk.only_now c.args.disk.now image told since) (g.met.D.Disk.follows_itself c.args.disk.now);
  counts = refl;
  settled = c.requires.settled;
  front = λ told. front_begin (g.D.Disk.content c.args.disk.now) c.args.layout.rooms.items c.args.layout.gate c.requires.none c.requires.first (c.requires.magic told);
  far = omega (arith, c.requires.first);
  within = omega (arith, c.requires.first, c.requires.long);
  begun = c.requires.begun;
}

less_or_not : (a b : ℕ) → (a < b) ⊎ (b ≤ a)
less_or_not a b = grind arith

pub loop-layout-preserved : goal.loop-layout-preserved
loop-layout-preserved g c =
    let inv = c.loop-layout.invariant in
    let read = c.in_ok-length.ensures in
    let opened : _ ≡ _ = ap (λ (gate : Gate). ok_gate gate) c.in-Open.is in
    let rooms = c.loop-layout.layout.rooms in
    let few : length c.loop-layout.layout.rooms.items < most_records = ⊎_elim
    (λ less. less)
    (λ full. let full_too : false ≡ true = c.if-is_full.ensures.1 (omega (arith, full)) in cc)
    (less_or_not (length c.loop-layout.layout.rooms.items) most_records) in
    record {
      keeps = keeps_on g.D.Disk c.args.disk.now c.loop-layout.disk c.read_gate.new.disk
          (g.met.D.Disk.follows_on c.args.disk.now c.loop-layout.disk c.read_gate.new.disk) inv.keeps read.keeps;
      counts = read.cause.succeeded ∙ inv.counts;
      settled = λ told image now. inv.settled told image ((read.keeps.reads told).images image now) ∙ sym (read.keeps.reads told).stays;
      front = λ told. front_add (g.D.Disk.content c.args.disk.now) rooms.items c.add.new.self.rooms.items c.loop-layout.layout.gate c.add.new.self.gate c.in-Open.length few (inv.front told)
          (subst (λ (bytes : List ℕ). ReadsGate bytes c.loop-layout.layout.gate c.in-Open.length) (inv.keeps.reads told).stays (read.opened told c.in-Open.length opened))
          c.add.ensures.rooms c.add.ensures.gate;
      far = omega (arith, inv.far, c.add.ensures.gate);
      within = omega (arith, (read.length c.in-Open.length opened).2, c.add.ensures.gate);
      begun = c.add.ensures.is_bare ∙ inv.begun;
    }

pub returns-in_err-length-clause-other : goal.returns-in_err-length-clause-other
returns-in_err-length-clause-other g c told place is =
    let inv = c.loop-layout.invariant in
    let same = (inv.keeps.reads told).stays in
    let handed : c.from_residual.result ≡ Err c.in_err-length.field-0.0 = search rules in
    let same_fault : c.in_err-length.field-0.0 ≡ NotJournal place = cc in
    let found = c.in_err-length.ensures.other place (ap (λ (fault : JournalFault). err_gate fault) same_fault) in
    let known = found.1 told in
    let at : place ≡ c.loop-layout.layout.gate + 1 = found.0 in
    let long : c.loop-layout.layout.gate < length (g.D.Disk.content c.args.disk.now) = omega (arith, inv.within, c.requires.told told) in
    subst (λ (p : ℕ). journal_of (g.D.Disk.content c.args.disk.now) ≡ Err p) (sym at)
    (front_no_record (entries_at (g.D.Disk.content c.args.disk.now) c.loop-layout.layout.rooms.items) (most_records - length c.loop-layout.layout.rooms.items) c.loop-layout.layout.gate
    (g.D.Disk.content c.args.disk.now) (inv.front told) long (omega (arith, c.requires.told told, c.requires.long))
    (subst (λ (bytes : List ℕ). slice_index bytes c.loop-layout.layout.gate ≡ 1) same known.0)
    (subst (λ (bytes : List ℕ). HoldsRecord (drop (c.loop-layout.layout.gate + 1) bytes) → ⊥) same known.1))

pub returns-then-is_full-clause-other : goal.returns-then-is_full-clause-other
returns-then-is_full-clause-other g c told place is =
    let inv = c.loop-layout.invariant in
    let opened : _ ≡ _ = ap (λ (gate : Gate). ok_gate gate) c.in-Open.is in
    let reads = subst (λ (bytes : List ℕ). ReadsGate bytes c.loop-layout.layout.gate c.in-Open.length) (inv.keeps.reads told).stays (c.in_ok-length.ensures.opened told c.in-Open.length opened) in
    let at : c.loop-layout.layout.gate + 1 ≡ place = cc in
    let none_left : most_records - length c.loop-layout.layout.rooms.items ≡ 0 = omega (arith, c.if-is_full.ensures.0 refl) in
    let front = subst (λ (left : ℕ). Front (entries_at (g.D.Disk.content c.args.disk.now) c.loop-layout.layout.rooms.items) left c.loop-layout.layout.gate (g.D.Disk.content c.args.disk.now)) none_left (inv.front told) in
    subst (λ (p : ℕ). journal_of (g.D.Disk.content c.args.disk.now) ≡ Err p) at
    (front_full (entries_at (g.D.Disk.content c.args.disk.now) c.loop-layout.layout.rooms.items) 0 c.loop-layout.layout.gate (g.D.Disk.content c.args.disk.now) front
    (omega (arith, inv.within, c.requires.told told)) (omega (arith, c.requires.told told, c.requires.long)) reads.is_open)
