use Rattle.std.proofs.Common.{◌≡◌, ◌∙◌, ◌-◌, ◌+◌, length, take, drop, refl, ap, subst, arith, rules, IsSomeAnd}
use borrow.Rule.Slice.PartMut.{put_mid}
use Rattle.group_fields.specs.Counts.{greatest_count}
use Rattle.system_calls.specs.Stored.{ReadsSome}
use Rattle.disk_trait.specs.LockedFile.{bytes_of}
use Rattle.disk_trait.proofs.ReadLemmas.{reads_of, filled_more, there_more, fits_more, read_all}
use Rattle.disk_trait.proofs.streams.read_full.Goals as goal

pub loop-filled-preserved : goal.loop-filled-preserved
loop-filled-preserved g c =
    let files = g.C.FileCalls in
    let inv = c.loop-filled.invariant in
    let from = c.loop-filled.filled in
    let n = c.in_ok-count.count in
    let cur = c.loop-filled.into in
    let buf = c.read_at_again.new.into in
    let room = length c.loop-filled.into - c.loop-filled.filled in
    let place = c.saturating_add-place.result in
    let content = bytes_of (files.file_at c.args.calls.now (files.path_of c.args.file.now)) in
    let whole : length (put_mid c.loop-filled.filled (length c.loop-filled.into - c.loop-filled.filled) c.loop-filled.into c.read_at_again.new.into) ≡ length c.loop-filled.into = search rules in
    let size : length c.read_at_again.new.into ≡ length c.loop-filled.into - c.loop-filled.filled = search rules in
    let reads = λ (told : files.told).
    reads_of (files.file_at c.args.calls.now (files.path_of c.args.file.now)) place n (take room (drop from cur)) buf
    (subst (λ stored. IsSomeAnd stored (λ file. ReadsSome file.bytes place n (take room (drop from cur)) buf))
    (inv.files told (files.path_of c.loop-filled.file) ∙ ap (files.file_at c.args.calls.now) inv.path)
    (c.in_ok-count.ensures.bytes told)) in
    let here = λ (told : files.told). let f = inv.fits told in let e : c.saturating_add-place.result ≡ c.args.at + c.loop-filled.filled = omega (arith, f, c.saturating_add-place.ensures) in e in
    record {
      within = omega (arith, whole, size, c.in_ok-count.ensures.within, inv.within);
      size = whole ∙ inv.size;
      there = λ told. there_more c.args.at place from n room content c.args.into.now cur (take room (drop from cur)) buf (inv.there told) inv.within refl (inv.bytes told) (here told) whole size refl (reads told);
      fits = λ told. fits_more c.args.at place from n room content c.args.into.now cur (take room (drop from cur)) buf (inv.there told) inv.within refl (inv.bytes told) (here told) whole size refl (reads told) greatest_count (reads told).fits;
      bytes = λ told. filled_more c.args.at place from n room content c.args.into.now cur (take room (drop from cur)) buf (inv.there told) inv.within refl (inv.bytes told) (here told) whole size refl (reads told);
      path = c.in_ok-count.ensures.file.0 ∙ inv.path;
      lock = c.in_ok-count.ensures.file.1 ∙ inv.lock;
      files = λ told path. c.in_ok-count.ensures.files told path ∙ inv.files told path;
      failures = c.in_ok-count.ensures.failures ∙ inv.failures;
    }

pub returns-then-count-eq0-clause-bytes : goal.returns-then-count-eq0-clause-bytes
returns-then-count-eq0-clause-bytes g c = λ told.
    let files = g.C.FileCalls in
    let inv = c.loop-filled.invariant in
    let from = c.loop-filled.filled in
    let n = c.in_ok-count.count in
    let cur = c.loop-filled.into in
    let buf = c.read_at_again.new.into in
    let room = length c.loop-filled.into - c.loop-filled.filled in
    let place = c.saturating_add-place.result in
    let content = bytes_of (files.file_at c.args.calls.now (files.path_of c.args.file.now)) in
    let whole : length (put_mid c.loop-filled.filled (length c.loop-filled.into - c.loop-filled.filled) c.loop-filled.into c.read_at_again.new.into) ≡ length c.loop-filled.into = search rules in
    let size : length c.read_at_again.new.into ≡ length c.loop-filled.into - c.loop-filled.filled = search rules in
    let reads =
    reads_of (files.file_at c.args.calls.now (files.path_of c.args.file.now)) place n (take room (drop from cur)) buf
    (subst (λ stored. IsSomeAnd stored (λ file. ReadsSome file.bytes place n (take room (drop from cur)) buf))
    (inv.files told (files.path_of c.loop-filled.file) ∙ ap (files.file_at c.args.calls.now) inv.path)
    (c.in_ok-count.ensures.bytes told)) in
    let fits = inv.fits told in
    let here : c.saturating_add-place.result ≡ c.args.at + c.loop-filled.filled = omega (arith, fits, c.saturating_add-place.ensures) in
    read_all c.args.at place from n room content c.args.into.now cur (take room (drop from cur)) buf (inv.there told) inv.within refl (inv.bytes told) here whole size refl reads
    c.if-count-eq0.true c.loop-filled-test.true inv.size
