use Rattle.std.proofs.Common.{◌≡◌}
use Rattle.rand_chacha.specs.ChaCha.{key_of}
use Rattle.hkdf_seal.proofs.Xors.{streamed}
use Rattle.hkdf_seal.proofs.sealing.xor_stream.Given as goal

abbrev pub invariant-words : goal.invariant-words
invariant-words l =
    (l.words ≡ record { key = key_of l.fn.key; stream = 0; word_pos = l.i })
    × (l.text ≡ streamed l.fn.key l.initial.text l.i)
