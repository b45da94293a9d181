use Rattle.std.proofs.Common.{◌≡◌, Some, map, take, drop}
use Rattle.kem_trait.specs.Streams.{behind}
use Rattle.kem_trait.proofs.kem.Kem.make_many.Given as goal

-- the pairs are those of the sources so far, these are left behind the words that they gave, and those to come are as they were
abbrev pub invariant-loop-source : goal.invariant-loop-source
invariant-loop-source g l = record {
  pairs : map (λ pair. Some (g.Self.Kem.secret_key pair)) l.pairs
      ≡ map (λ w. g.Self.Kem.made (g.W.Words.upcoming w)) (take l.source-index l.initial.words);
  left : map (λ w. g.W.Words.upcoming w) (take l.source-index l.words)
      ≡ map (λ w. behind (g.Self.Kem.pair_words (g.W.Words.upcoming w)) (g.W.Words.upcoming w)) (take l.source-index l.initial.words);
  rest : drop l.source-index l.words ≡ drop l.source-index l.initial.words;
}
