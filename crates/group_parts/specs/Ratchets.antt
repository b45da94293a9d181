-- The step of a sender's ratchet, as bytes.
use Rattle.std.specs.Prelude.{take, drop, codes}
use Rattle.hkdf_seal.specs.Keys.{extract, expand}
use Rattle.group_model.specs.Sets.{Bytes}

-- the 64 bytes of a step
unfoldable pub ratchet_step : (ratchet input : Bytes) → Bytes
ratchet_step ratchet input = expand (extract ratchet input) (codes "ratchet") 64

-- the first 32 are the update secret, the last 32 the next ratchet
unfoldable pub update_secret : (ratchet input : Bytes) → Bytes
update_secret ratchet input = take 32 (ratchet_step ratchet input)

unfoldable pub next_ratchet : (ratchet input : Bytes) → Bytes
next_ratchet ratchet input = drop 32 (ratchet_step ratchet input)
