-- The primitives of a group, by a key encapsulation.
use Rattle.kem_trait.specs.declared.kem.Kem.{Ghosts}
use Rattle.hkdf_seal.specs.Keys.{kdf}
use Rattle.hkdf_seal.specs.Sealing.{opened, sealed_with_tag}
use Rattle.hkdf_seal.proofs.Opening.{opened-sealed_with_tag}
use Rattle.group_model.specs.Primitives.{Primitives}
use Rattle.group_parts.specs.Contents.{content_read, content_written}
use Rattle.group_parts.specs.KeyPairs.{encapsulation, is_pair, made_pair}
use Rattle.group_parts.specs.Ratchets.{next_ratchet, update_secret}
use Rattle.group_parts.proofs.Tested.{decapsulates, made-tested}
use Rattle.group_parts.proofs.Written.{content_read-written}

module _ {K P : Type 0} (kem : Ghosts K P) where
  unfoldable pub primitives_of : Primitives
  primitives_of = record {
    derive = kdf;
    next = next_ratchet;
    out = update_secret;
    seal = sealed_with_tag;
    unseal = opened;
    is_pair = is_pair kem;
    make = made_pair kem;
    encapsulate = encapsulation kem;
    decapsulate = kem.decapsulated;
    write = content_written kem;
    read = content_read kem;
    unseal_seal = opened-sealed_with_tag;
    made_pair = made-tested kem;
    decapsulate_encapsulate = decapsulates kem;
    read_write = content_read-written kem;
  }
