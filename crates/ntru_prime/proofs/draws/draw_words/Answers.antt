use Rattle.std.proofs.Common.{◌≡◌, suc, ◌+◌, arith, ap, ◌∙◌, sym, zero-add, add-zero, refl}
use Rattle.ring_poly.proofs.Writes.{written}
use Rattle.ntru_prime.proofs.draws.draw_words.Goals as goal

pub loop-i-init : goal.loop-i-init
loop-i-init g c = record { drawn = λ n lt. absurd (omega arith); left = λ n. ap (g.V.Words.upcoming c.args.words.now) (sym (zero-add n)) }

pub loop-i-preserved : goal.loop-i-preserved
loop-i-preserved g c =
    let i = c.loop-i.i in
    let u = g.V.Words.upcoming c.args.words.now in
    record {
      drawn = written (λ n word. word ≡ u n) c.loop-i.into i _ _ 0 (omega arith) refl c.loop-i.invariant.drawn (c.next.ensures.word ∙ c.loop-i.invariant.left 0 ∙ ap u (add-zero i));
      left = λ n. c.next.ensures.left n ∙ c.loop-i.invariant.left (suc n) ∙ ap u (let e : i + suc n ≡ i + 1 + n = omega arith in e);
    }
