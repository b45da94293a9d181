use Rattle.std.proofs.Common.{◌≡◌, ◌∙◌, ◌-◌, ◌+◌, ◌<◌, length, take, drop, ap, subst, arith}
use Rattle.std.proofs.lemmas.List.{length-drop, take_rest}
use Rattle.system_calls.specs.Stored.{WritesSome}
use Rattle.disk_trait.proofs.WriteLemmas.{wrote_more, keeps_name}
use Rattle.disk_trait.proofs.streams.write_full.Goals as goal

pub loop-done-preserved : goal.loop-done-preserved
loop-done-preserved g c =
    let files = g.C.FileCalls in
    let inv = c.loop-done.invariant in
    let now = c.in_ok-done.ensures in
    let done = c.loop-done.done in
    let n = c.in_ok-done.field-0 in
    let bytes = c.args.bytes.now in
    let place = c.saturating_add-place.result in
    let path = files.path_of c.args.file.now in
    let old = files.file_at c.args.calls.now path in
    let mid = files.file_at c.loop-done.calls path in
    let new = files.file_at c.write_at_again.new.calls path in
    let rest = take (length bytes - done) (drop done bytes) in
    let left = take_rest bytes done in
    let some : 0 < c.in_ok-done.field-0 = now.some (omega (arith, c.loop-done-test.true, ap length left, length-drop c.loop-done.done c.args.bytes.now)) in
    let writes = λ (told : files.told).
    subst (λ p. WritesSome place n rest (files.file_at c.loop-done.calls p) (files.file_at c.write_at_again.new.calls p)) inv.path (now.written told) in
    let here = λ (told : files.told). let f = inv.fits told in let e : c.saturating_add-place.result ≡ c.args.at + c.loop-done.done = omega (arith, f, c.saturating_add-place.ensures) in e in
    record {
      within = omega (arith, now.within, inv.within, ap length left, length-drop c.loop-done.done c.args.bytes.now);
      fits = λ told. let e = here told in let f = (writes told).fits in omega (arith, e, f);
      written = λ told. wrote_more c.args.at place done n bytes rest old mid new (here told) inv.within left some (inv.written told) (writes told);
      name = λ told. keeps_name place n rest old mid new some (inv.name told) (writes told);
      others = λ told other differ. now.others told other (λ e. differ (e ∙ inv.path)) ∙ inv.others told other differ;
      path = now.file.0 ∙ inv.path;
      lock = now.file.1 ∙ inv.lock;
      failures = now.failures ∙ inv.failures;
    }
