use Rattle.std.proofs.Common.{◌≡◌, ℕ, ◌+◌, ◌%◌, ◌^◌, List, ap, ◌∙◌, zero-add}
use Rattle.rand_chacha.specs.ChaCha.{ChaCha, key_of, word_at}
use Rattle.kem_trait.specs.Streams.{words_of_seed}
use Rattle.kem_trait.proofs.StreamFacts.{same_stream}
use Rattle.kem_trait.proofs.words.SeedWords.new.Goals as goal

-- the words of a generator at its start
from_start : (generator : ChaCha) (seed : List ℕ) → generator ≡ record { key = key_of seed; stream = 0; word_pos = 0 } → (n : ℕ)
    → word_at 10 generator.key generator.stream ((generator.word_pos + n) % 2 ^ 68) ≡ words_of_seed seed n
unfolding words_of_seed
from_start generator seed is n =
    ap (λ (g : ChaCha). word_at 10 g.key g.stream ((g.word_pos + n) % 2 ^ 68)) is
    ∙ ap (λ (m : ℕ). word_at 10 (key_of seed) 0 (m % 2 ^ 68)) (zero-add n)

pub returns : goal.returns
returns c = same_stream _ _ (from_start c.from_seed.result c.args.seed.now c.from_seed.ensures)
