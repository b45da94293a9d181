use Rattle.std.proofs.Common.{◌≡◌, ◌≤◌, List, ℕ, length, slice_get, Err, sym, ◌∙◌, ap, subst, arith}
use Rattle.std.proofs.lemmas.List.{length-map}
use Rattle.member_journal.specs.Journal.{places-entries, entries}
use Rattle.mailbox_cli.specs.Steps.{steps_of}
use Rattle.mailbox_cli.proofs.Records.{first_other, second_there, only_member}
use Rattle.mailbox_cli.proofs.step.open_member.Goals as goal

pub returns-then-count-gt1-clause-not_journal : goal.returns-then-count-gt1-clause-not_journal
returns-then-count-gt1-clause-not_journal g c told place is =
    let content = g.D.Disk.content in
    let journal = c.in_ok-journal.journal in
    let there = c.in-Ok.ensures.member told in
    let same : c.place-place.result ≡ place = cc in
    let at = ap (λ (ps : List ℕ). slice_get ps 1) (sym (places-entries journal) ∙ sym c.in-Ok.ensures.places) ∙ c.place-place.ensures in
    subst (λ (p : ℕ). steps_of g.K.Kem (content c.args.disk) ≡ Err p) same
    (second_there g.K.Kem (content c.args.disk) there.0 c.in-Ok.member (entries journal) c.place-place.result (c.in_ok-journal.ensures.records told) there.1 at there.2)

pub returns-in-Err-clause-not_journal : goal.returns-in-Err-clause-not_journal
returns-in-Err-clause-not_journal g c told place is =
    let content = g.D.Disk.content in
    let journal = c.in_ok-journal.journal in
    let fault = c.in-Err.is ∙ ap Err is in
    let other = c.read_member.ensures.no_member told place fault in
    let at = ap (λ (ps : List ℕ). slice_get ps 0) (sym (places-entries journal)) ∙ c.read_member.ensures.place place fault in
    first_other g.K.Kem (content c.args.disk) other.0 (entries journal) place (c.in_ok-journal.ensures.records told) other.1 at other.2

pub returns-else-count-gt1-clause-steps : goal.returns-else-count-gt1-clause-steps
returns-else-count-gt1-clause-steps g c told =
    let content = g.D.Disk.content in
    let journal = c.in_ok-journal.journal in
    let there = c.in-Ok.ensures.member told in
    let few : length (entries journal) ≤ 1 = omega (
      arith,
      c.if-count-gt1.false,
      c.count-in-Ok.ensures.count,
      ap length c.in-Ok.ensures.places,
      ap length (places-entries journal),
      length-map (entries journal) (λ entry. entry.place),
    ) in
    only_member g.K.Kem (content c.args.disk) there.0 c.in-Ok.member (entries journal) (c.in_ok-journal.ensures.records told) there.1 few there.2
