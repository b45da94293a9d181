-- The words to come of the two streams.
use Rattle.std.specs.Prelude.{ℕ, ◌+◌, ◌%◌, ◌^◌, slice_index}
use Rattle.rand_chacha.specs.ChaCha.{word_at}
use Rattle.kem_trait.specs.declared.words.SeedWords.{SeedWords}
use Rattle.kem_trait.specs.declared.words.ListWords.{ListWords}

-- word n from the generator's place on; a generator's stream repeats after 2 ^ 68 words
abbrev pub seed_words : SeedWords → ℕ → ℕ
seed_words words n =
    word_at 10 words.generator.key words.generator.stream ((words.generator.word_pos + n) % 2 ^ 68)

-- word n of what is left of a list, and 0 behind its end
abbrev pub list_words : ListWords → ℕ → ℕ
list_words words n = slice_index words.words.now n
