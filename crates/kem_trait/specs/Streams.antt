-- Streams of words of 32 bits, as functions: word n for each n from 0 on.
use Rattle.std.specs.Prelude.{ℕ, ◌+◌, ◌%◌, ◌^◌, List}
use Rattle.rand_chacha.specs.ChaCha.{word_at, key_of}

abbrev pub Stream : Type 0
Stream = ℕ → ℕ

-- the words behind the first n
abbrev pub behind : ℕ → Stream → Stream
behind n words = λ k. words (n + k)

-- The words of a seed of 32 bytes: those of ChaCha with 10 double rounds (RFC 8439, section 2.3) under it, stream 0,
-- from its start. They repeat after 2 ^ 68.
unfoldable pub words_of_seed : List ℕ → Stream
words_of_seed seed n = word_at 10 (key_of seed) 0 (n % 2 ^ 68)
