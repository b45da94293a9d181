use Rattle.std.proofs.Common.{List, ℕ, arith, sym, subst}
use Rattle.std.proofs.lemmas.List.{take_at}
use Rattle.ring_solve.specs.Steps.{SolvesRows}
use Rattle.ring_solve.proofs.found.Goals as goal

pub returns : goal.returns
returns g c =
    let same = c.kernel_numbers.auto.x in
    let len = c.as_mut_slice-5.ensures.len in
    let whole = take_at c.kernel_numbers.new.x _ c.in_ok-x.x.len (omega arith) in
    let Q : List ℕ → Type 0 = λ xs. SolvesRows c.args.m g.row.P c.args.a.now xs in
    subst Q (sym whole) c.kernel_numbers.ensures
