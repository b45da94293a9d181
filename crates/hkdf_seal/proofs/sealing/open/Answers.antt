use Rattle.std.proofs.Common.{refl, ◌∙◌, ap}
use Rattle.hkdf_seal.specs.Sealing.{sealed, xor_stream}
use Rattle.hkdf_seal.proofs.Xors.{sealed-sealed}
use Rattle.hkdf_seal.proofs.sealing.open.Goals as goal

pub returns-clause-undoes : goal.returns-clause-undoes
unfolding sealed
returns-clause-undoes c =
    λ plain is_sealed is_tag. (
      refl,
      c.xor_stream.ensures ∙ (ap (λ k. xor_stream k c.args.text.now) c.kdf-stream_key.ensures
          ∙ (ap (sealed c.args.key.now) is_sealed ∙ sealed-sealed c.args.key.now plain)),
    )
