use Rattle.std.proofs.Common.{◌≡◌, ◌∙◌, ◌++◌, ◌+◌, ◌≤◌, IfSome, length, take, drop, vec_len, sym, ap, subst, length-take-le, rules, arith, ℕ}
use Rattle.std.proofs.lemmas.List.{take-append-le, length-take}
use Rattle.std.proofs.lemmas.Grind.{common_steps}
use Rattle.mail_trait.proofs.StreamLemmas.{read_on}
use Rattle.mail_trait.proofs.streams.read_at_most.Goals as goal

pub loop-preserved : goal.loop-preserved
loop-preserved g c =
    let was = c.loop.invariant in
    let now = c.in_ok-count.ensures in
    let files = g.C.FileCalls.file_at in
    let path = g.C.FileCalls.path_of c.args.file.now in
    let at = c.len-in-loop.result in
    let n = c.in_ok-count.count in
    let block = c.read_at_again.new.into in
    let grown_to = c.extend_from_slice.new.self in
    let fits : n ≤ length c.read_at_again.new.into = omega (arith, now.within, c.read_at_again.auto.into) in
    let short : n ≤ c.min-room.result = first_of (search rules, grind (arith, common_steps, now.within), omega (arith, length-take {A = ℕ}, now.within)) in
    let front = take-append-le n c.read_at_again.new.into (drop c.min-room.result c.loop.block) fits in
    let grown : c.extend_from_slice.new.self.items ≡ c.loop.bytes.items ++ take n c.read_at_again.new.into =
    c.in_ok-extend_from_slice.ensures.items ∙ ap (λ l. c.loop.bytes.items ++ l) front in
    let longer : vec_len c.extend_from_slice.new.self ≡ vec_len c.loop.bytes + n =
    c.in_ok-extend_from_slice.ensures.len ∙ ap (λ l. vec_len c.loop.bytes + length l) front
    ∙ ap (λ k. vec_len c.loop.bytes + k) (length-take-le n c.read_at_again.new.into fits) in
    record {
      within = omega (arith, longer, short, c.min-room.ensures, was.within);
      read = λ told.
          read_on (files c.args.calls.now) (files c.loop.calls) path (g.C.FileCalls.path_of c.loop.file)
          grown_to.items c.loop.bytes.items (take c.min-room.result c.loop.block) block
          (vec_len grown_to) at n was.path (was.files told) grown (longer ∙ ap (λ k. k + n) (sym c.len-in-loop.ensures))
          (subst (λ (k : ℕ). IfSome (files c.args.calls.now path) (λ file. c.loop.bytes.items ≡ take k file.bytes)) (sym c.len-in-loop.ensures) (was.read told))
          (now.bytes told);
      path = now.file.0 ∙ was.path;
      files = λ told other. now.files told other ∙ was.files told other;
      calm = now.failures ∙ was.calm;
    }
