use Rattle.std.proofs.Common.{◌∙◌, ap, arith, ◌+◌}
use Rattle.std.proofs.Math.Path.{fun_ext}
use Rattle.ntru_model.proofs.Computed.{small_draw_from}
use Rattle.ntru_prime.proofs.draws.draw_small.Goals as goal

pub returns-clause-drawn : goal.returns-clause-drawn
returns-clause-drawn g c =
    c.small_of.ensures ∙ small_draw_from g.row.P (g.V.Words.upcoming c.args.words.now) c.draw_words.new.into (omega arith) (λ k lt. c.draw_words.ensures.drawn k (omega arith))

pub returns-clause-left : goal.returns-clause-left
returns-clause-left g c = fun_ext (λ n. c.draw_words.ensures.left n ∙ ap (λ p. g.V.Words.upcoming c.args.words.now (p + n)) c.blank_words-drawn.ensures)
