use Rattle.std.proofs.Common.{◌∙◌, ◌-◌, List, ℕ, length, drop, take, refl, subst, arith}
use Rattle.system_calls.specs.Stored.{WritesSome}
use Rattle.mail_trait.proofs.StreamLemmas.{write_more}
use Rattle.mail_trait.proofs.streams.write_new.Goals as goal

pub loop-done-preserved : goal.loop-done-preserved
loop-done-preserved g c =
    let bytes = c.args.bytes.now in
    let at = c.loop-done.done in
    let n = c.in_ok-done.field-0 in
    let room = length bytes - at in
    let was = c.loop-done.invariant in
    let now = c.in_ok-done.ensures in
    let path = g.C.FileCalls.path_of c.args.file.now in
    let before = g.C.FileCalls.file_at c.loop-done.calls in
    let after = g.C.FileCalls.file_at c.write_at_again.new.calls in
    record {
      within = omega (arith, now.within, was.within);
      written = λ told fresh. write_more _ at n room bytes (before path) (after path) refl was.within
          (omega (arith, now.within))
          (subst (λ (p : List ℕ). WritesSome at n (take room (drop at bytes)) (before p) (after p)) was.path (now.written told))
          (was.written told fresh);
      others = λ told other differ. now.others told other (λ e. differ (e ∙ was.path)) ∙ was.others told other differ;
      path = now.file.0 ∙ was.path;
      calm = now.failures ∙ was.calm;
    }
