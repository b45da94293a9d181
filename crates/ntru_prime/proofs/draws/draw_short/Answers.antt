use Rattle.std.proofs.Common.{◌∙◌, ap, arith, ◌+◌}
use Rattle.std.proofs.Math.Path.{fun_ext}
use Rattle.std.proofs.lemmas.List.Sorted.{IsNonDecreasingBy-from_sort}
use Rattle.ntru_model.specs.Draws.{marked}
use Rattle.ntru_model.proofs.Computed.{short_draw_from}
use Rattle.ntru_prime.proofs.draws.draw_short.Goals as goal

pub returns-clause-drawn : goal.returns-clause-drawn
returns-clause-drawn g c =
    c.short_of.ensures ∙ short_draw_from g.row.P g.row.W (g.V.Words.upcoming c.args.words.now) c.mark.new.into c.sort_unstable.new.self (omega arith)
    (λ k lt. c.mark.ensures k (omega arith) ∙ ap (marked g.row.W k) (c.draw_words.ensures.drawn k (omega arith))) c.sort_unstable.ensures.permutation (IsNonDecreasingBy-from_sort (λ n. n) c.sort_unstable.new.self c.sort_unstable.ensures.sorted)

pub returns-clause-left : goal.returns-clause-left
returns-clause-left g c = fun_ext (λ n. c.draw_words.ensures.left n ∙ ap (λ p. g.V.Words.upcoming c.args.words.now (p + n)) c.blank_words-drawn.ensures)
