use Rattle.std.proofs.Common.{◌≡◌, ℕ, ◌+◌, ◌<◌, get_or}
use Rattle.ntru_prime.proofs.draws.draw_words.Given as goal

abbrev pub invariant-loop-i : goal.invariant-loop-i
invariant-loop-i g l = record {
  drawn : (n : ℕ) → n < l.i → get_or l.into n 0 ≡ g.V.Words.upcoming l.initial.words n;
  left : (n : ℕ) → g.V.Words.upcoming l.words n ≡ g.V.Words.upcoming l.initial.words (l.i + n);
}
