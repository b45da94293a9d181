-- Streams that agree at each place are equal, and what is behind some of their words.
use Rattle.std.proofs.Common.{◌≡◌, ℕ, ◌+◌, ap, arith, zero-add}
use Rattle.kem_trait.specs.Streams.{Stream, behind}

pub same_stream : (u v : Stream) → ((n : ℕ) → u n ≡ v n) → u ≡ v
same_stream u v h = λ i n. h n i

pub behind-none : (words : Stream) → behind 0 words ≡ words
behind-none words = same_stream (behind 0 words) words (λ k. ap words (zero-add k))

pub behind-behind : (m n : ℕ) (words : Stream) → behind n (behind m words) ≡ behind (m + n) words
behind-behind m n words =
    same_stream (behind n (behind m words)) (behind (m + n) words)
    (λ k. ap words (let e : m + (n + k) ≡ m + n + k = omega arith in e))
