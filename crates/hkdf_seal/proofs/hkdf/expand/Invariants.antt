use Rattle.std.proofs.Common.{◌≡◌, ◌<◌, ◌*◌, length, take}
use Rattle.hkdf_seal.specs.Keys.{block, blocks}
use Rattle.hkdf_seal.proofs.hkdf.expand.Given as goal

abbrev pub invariant-fill : goal.invariant-fill
invariant-fill l =
    (0 < l.i → l.last ≡ block l.prk l.info l.i)
    × (take (32 * l.i) l.into ≡ take (length l.initial.into) (blocks l.prk l.info l.i))
