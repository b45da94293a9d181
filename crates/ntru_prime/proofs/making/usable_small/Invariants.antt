use Rattle.std.proofs.Common.{◌≡◌, ◌-◌}
use Rattle.kem_trait.specs.Streams.{behind}
use Rattle.ntru_model.specs.Draws.{first_invertible, words_tried, small_draw}
use Rattle.ntru_model.specs.Residues.{inverse_mod}
use Rattle.ntru_prime.proofs.making.usable_small.Given as goal

-- what the tries to come give, and which words they leave
abbrev pub invariant-loop-i : goal.invariant-loop-i
invariant-loop-i g l = record {
  found : first_invertible g.row.P 16 (small_draw g.row.P) (inverse_mod g.row.P 3) (g.V.Words.upcoming l.initial.words)
      ≡ first_invertible g.row.P (16 - l.i) (small_draw g.row.P) (inverse_mod g.row.P 3) (g.V.Words.upcoming l.words);
  left : behind (words_tried g.row.P 16 (small_draw g.row.P) (inverse_mod g.row.P 3) (g.V.Words.upcoming l.initial.words)) (g.V.Words.upcoming l.initial.words)
      ≡ behind (words_tried g.row.P (16 - l.i) (small_draw g.row.P) (inverse_mod g.row.P 3) (g.V.Words.upcoming l.words)) (g.V.Words.upcoming l.words);
}
