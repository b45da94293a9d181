use Rattle.std.proofs.Common.{◌≡◌, ap, ◌∙◌, arith, None}
use Rattle.ntru_model.specs.Draws.{small_draw}
use Rattle.ntru_model.specs.Residues.{inverse_mod}
use Rattle.ntru_model.proofs.Inverses.{inverse_of}
use Rattle.ntru_prime.proofs.Solving.{small_centred, inverse_3, try_later, try_here, tries_over, left_by_later, left_by_here, left_by_all}
use Rattle.ntru_prime.proofs.making.usable_small.Goals as goal

pub inverse-requires-clause-centred : goal.inverse-requires-clause-centred
inverse-requires-clause-centred g c = small_centred g.row.P _ c.draw_small.new.into c.draw_small.ensures.drawn

pub returns-in-Inverse-clause-found : goal.returns-in-Inverse-clause-found
returns-in-Inverse-clause-found g c =
    try_here g.row.P c.loop-i.i (small_draw g.row.P) (inverse_mod g.row.P 3) (g.V.Words.upcoming c.loop-i.words) _ c.draw_small.new.into c.in-Inverse.found (g.V.Words.upcoming c.draw_small.new.words) (omega arith)
    c.loop-i.invariant.found c.draw_small.ensures.drawn c.draw_small.ensures.left
    (inverse_3 g.row.P c.draw_small.new.into c.in_ok-found.field-0 (omega arith) (omega arith) c.in_ok-found.ensures.solves c.in_ok-found.ensures.len c.in_ok-found.ensures.centred ∙ ap inverse_of c.in-Inverse.is)

pub returns-in-Inverse-clause-left : goal.returns-in-Inverse-clause-left
returns-in-Inverse-clause-left g c =
    left_by_here g.row.P c.loop-i.i (small_draw g.row.P) (inverse_mod g.row.P 3) (g.V.Words.upcoming c.loop-i.words) _ c.draw_small.new.into c.in-Inverse.found (g.V.Words.upcoming c.draw_small.new.words) (omega arith)
    c.loop-i.invariant.left c.draw_small.ensures.drawn c.draw_small.ensures.left
    (inverse_3 g.row.P c.draw_small.new.into c.in_ok-found.field-0 (omega arith) (omega arith) c.in_ok-found.ensures.solves c.in_ok-found.ensures.len c.in_ok-found.ensures.centred ∙ ap inverse_of c.in-Inverse.is)

pub loop-i-preserved : goal.loop-i-preserved
loop-i-preserved g c =
    let none : inverse_mod g.row.P 3 c.draw_small.new.into ≡ None = (inverse_3 g.row.P c.draw_small.new.into c.in_ok-found.field-0 (omega arith) (omega arith) c.in_ok-found.ensures.solves c.in_ok-found.ensures.len c.in_ok-found.ensures.centred ∙ ap inverse_of c.in-Kernel.is) in
    record {
      found = try_later g.row.P c.loop-i.i (small_draw g.row.P) (inverse_mod g.row.P 3) (g.V.Words.upcoming c.loop-i.words) _ c.draw_small.new.into (g.V.Words.upcoming c.draw_small.new.words) (omega arith)
          c.loop-i.invariant.found c.draw_small.ensures.drawn c.draw_small.ensures.left none;
      left = left_by_later g.row.P c.loop-i.i (small_draw g.row.P) (inverse_mod g.row.P 3) (g.V.Words.upcoming c.loop-i.words) _ c.draw_small.new.into (g.V.Words.upcoming c.draw_small.new.words) (omega arith)
          c.loop-i.invariant.left c.draw_small.ensures.drawn c.draw_small.ensures.left none;
    }

pub returns-clause-found : goal.returns-clause-found
returns-clause-found g c = tries_over g.row.P c.loop-i.i (small_draw g.row.P) (inverse_mod g.row.P 3) (g.V.Words.upcoming c.loop-i.words) _ (omega arith) c.loop-i.invariant.found

pub returns-clause-left : goal.returns-clause-left
returns-clause-left g c = left_by_all g.row.P c.loop-i.i (small_draw g.row.P) (inverse_mod g.row.P 3) (g.V.Words.upcoming c.loop-i.words) _ (omega arith) c.loop-i.invariant.left
