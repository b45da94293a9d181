use Rattle.std.proofs.Common.{◌≡◌, ◌-◌, pos, unsigned_abs, to_z, w32}
use Rattle.ring_laws.specs.Laws.{multiple_of}
use Rattle.kem_trait.specs.Streams.{behind}
use Rattle.ntru_model.specs.Draws.{first_invertible, words_tried, short_draw}
use Rattle.ntru_model.specs.Residues.{inverse_mod}
use Rattle.ntru_prime.proofs.making.usable_short.Given as goal

-- what the tries to come give, and which words they leave
abbrev pub invariant-loop-i : goal.invariant-loop-i
invariant-loop-i g l = record {
  found : first_invertible g.row.P 16 (short_draw g.row.P g.row.W) (λ a. inverse_mod g.row.P (unsigned_abs (to_z w32 g.row.Q)) (multiple_of (pos 3) a)) (g.V.Words.upcoming l.initial.words)
      ≡ first_invertible g.row.P (16 - l.i) (short_draw g.row.P g.row.W) (λ a. inverse_mod g.row.P (unsigned_abs (to_z w32 g.row.Q)) (multiple_of (pos 3) a)) (g.V.Words.upcoming l.words);
  left : behind (words_tried g.row.P 16 (short_draw g.row.P g.row.W) (λ a. inverse_mod g.row.P (unsigned_abs (to_z w32 g.row.Q)) (multiple_of (pos 3) a)) (g.V.Words.upcoming l.initial.words)) (g.V.Words.upcoming l.initial.words)
      ≡ behind (words_tried g.row.P (16 - l.i) (short_draw g.row.P g.row.W) (λ a. inverse_mod g.row.P (unsigned_abs (to_z w32 g.row.Q)) (multiple_of (pos 3) a)) (g.V.Words.upcoming l.words)) (g.V.Words.upcoming l.words);
}
