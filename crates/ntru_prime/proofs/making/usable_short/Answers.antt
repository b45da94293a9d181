use Rattle.std.proofs.Common.{◌∙◌, arith, pos, unsigned_abs, to_z, w32}
use Rattle.ring_laws.specs.Laws.{multiple_of}
use Rattle.ntru_model.specs.Draws.{short_draw}
use Rattle.ntru_model.specs.Residues.{inverse_mod}
use Rattle.ntru_prime.proofs.Sums.{short_small}
use Rattle.ntru_prime.proofs.Solving.{try_later, try_here, tries_over, left_by_later, left_by_here, left_by_all}
use Rattle.ntru_prime.proofs.making.usable_short.Goals as goal

pub inverse_of_triple-requires-clause-small : goal.inverse_of_triple-requires-clause-small
inverse_of_triple-requires-clause-small g c = short_small c.requires.set _ c.draw_short.new.into c.draw_short.ensures.drawn

pub returns-in-Some-clause-found : goal.returns-in-Some-clause-found
returns-in-Some-clause-found g c =
    try_here g.row.P c.loop-i.i (short_draw g.row.P g.row.W) (λ a. inverse_mod g.row.P (unsigned_abs (to_z w32 g.row.Q)) (multiple_of (pos 3) a)) (g.V.Words.upcoming c.loop-i.words) _ c.draw_short.new.into c.in-Some.found (g.V.Words.upcoming c.draw_short.new.words) (omega arith)
    c.loop-i.invariant.found c.draw_short.ensures.drawn c.draw_short.ensures.left (c.in_ok-found.ensures ∙ c.in-Some.is)

pub returns-in-Some-clause-left : goal.returns-in-Some-clause-left
returns-in-Some-clause-left g c =
    left_by_here g.row.P c.loop-i.i (short_draw g.row.P g.row.W) (λ a. inverse_mod g.row.P (unsigned_abs (to_z w32 g.row.Q)) (multiple_of (pos 3) a)) (g.V.Words.upcoming c.loop-i.words) _ c.draw_short.new.into c.in-Some.found (g.V.Words.upcoming c.draw_short.new.words) (omega arith)
    c.loop-i.invariant.left c.draw_short.ensures.drawn c.draw_short.ensures.left (c.in_ok-found.ensures ∙ c.in-Some.is)

pub loop-i-preserved : goal.loop-i-preserved
loop-i-preserved g c = record {
  found = try_later g.row.P c.loop-i.i (short_draw g.row.P g.row.W) (λ a. inverse_mod g.row.P (unsigned_abs (to_z w32 g.row.Q)) (multiple_of (pos 3) a)) (g.V.Words.upcoming c.loop-i.words) _ c.draw_short.new.into (g.V.Words.upcoming c.draw_short.new.words) (omega arith)
      c.loop-i.invariant.found c.draw_short.ensures.drawn c.draw_short.ensures.left (c.in_ok-found.ensures ∙ c.in-None.is);
  left = left_by_later g.row.P c.loop-i.i (short_draw g.row.P g.row.W) (λ a. inverse_mod g.row.P (unsigned_abs (to_z w32 g.row.Q)) (multiple_of (pos 3) a)) (g.V.Words.upcoming c.loop-i.words) _ c.draw_short.new.into (g.V.Words.upcoming c.draw_short.new.words) (omega arith)
      c.loop-i.invariant.left c.draw_short.ensures.drawn c.draw_short.ensures.left (c.in_ok-found.ensures ∙ c.in-None.is);
}

pub returns-clause-found : goal.returns-clause-found
returns-clause-found g c = tries_over g.row.P c.loop-i.i (short_draw g.row.P g.row.W) (λ a. inverse_mod g.row.P (unsigned_abs (to_z w32 g.row.Q)) (multiple_of (pos 3) a)) (g.V.Words.upcoming c.loop-i.words) _ (omega arith) c.loop-i.invariant.found

pub returns-clause-left : goal.returns-clause-left
returns-clause-left g c = left_by_all g.row.P c.loop-i.i (short_draw g.row.P g.row.W) (λ a. inverse_mod g.row.P (unsigned_abs (to_z w32 g.row.Q)) (multiple_of (pos 3) a)) (g.V.Words.upcoming c.loop-i.words) _ (omega arith) c.loop-i.invariant.left
