use Rattle.std.proofs.Common.{◌∙◌, ◌++◌, ◌-◌, length, drop, take, refl, sym, ap, append_assoc, arith}
use Rattle.mail_trait.proofs.StreamLemmas.{take-more}
use Rattle.mail_trait.proofs.streams.write_out.Goals as goal

pub loop-done-preserved : goal.loop-done-preserved
loop-done-preserved g c =
    let bytes = c.args.bytes.now in
    let at = c.loop-done.done in
    let n = c.in_ok-done.field-0 in
    let was = c.loop-done.invariant in
    let now = c.in_ok-done.ensures in
    let part = take (length bytes - at) (drop at bytes) in
    record {
      within = omega (arith, now.within, was.within);
      written = λ told.
          now.written told
          ∙ ap (λ l. l ++ take n part) (was.written told)
          ∙ append_assoc (g.C.OutputCalls.written c.args.calls.now) (take at bytes) (take n part)
          ∙ ap (λ l. g.C.OutputCalls.written c.args.calls.now ++ l)
          (sym (take-more _ at n (length bytes - at) bytes refl (omega (arith, now.within))));
      calm = now.failures ∙ was.calm;
    }
