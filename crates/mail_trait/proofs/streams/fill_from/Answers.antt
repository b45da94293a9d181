use Rattle.std.proofs.Common.{◌≡◌, ◌∙◌, ◌++◌, ◌-◌, ◌≤◌, length, take, refl, sym, ap, append_assoc, rules, arith}
use borrow.Rule.Slice.PartMut.{put_mid}
use Rattle.mail_trait.proofs.StreamLemmas.{take-filled}
use Rattle.mail_trait.proofs.streams.fill_from.Goals as goal

pub loop-filled-preserved : goal.loop-filled-preserved
loop-filled-preserved g c =
    let from = c.loop-filled.filled in
    let cur = c.loop-filled.into in
    let buf = c.read_again.new.into in
    let room = length cur - from in
    let n = c.in_ok-count.count in
    let was = c.loop-filled.invariant in
    let now = c.in_ok-count.ensures in
    let left = g.C.RandomCalls.to_come c.read_again.new.calls in
    let whole : length (put_mid from room c.loop-filled.into c.read_again.new.into) ≡ length c.loop-filled.into = search rules in
    let size : length c.read_again.new.into ≡ length c.loop-filled.into - c.loop-filled.filled = search rules in
    let fits : n ≤ length c.read_again.new.into = omega (arith, now.within, size) in
    record {
      same = whole ∙ was.same;
      within = omega (arith, whole, size, now.within, was.within);
      read = λ told.
          was.read told
          ∙ ap (λ l. take from cur ++ l) (now.bytes told)
          ∙ sym (append_assoc (take from cur) (take n buf) left)
          ∙ ap (λ l. l ++ left) (sym (take-filled _ from room n cur buf refl was.within fits));
      opened = λ told. now.openings told ∙ was.opened told;
      calm = now.failures ∙ was.calm;
    }
