-- What an HMAC over pieces holds.
use Rattle.std.specs.Prelude.{◌≡◌, ℕ, List, ◌++◌}
use Rattle.sha2.specs.Hashers.{Holds256}
use Rattle.sha2.specs.declared.Sha256.{Sha256}
use Rattle.hkdf_seal.specs.Keys.{block_key, xor_all}

-- the inner hasher and the outer block of an HMAC under a key, after this text
pub record IsAfter (inner : Sha256) (outer : List ℕ) (key text : List ℕ) : Type 0 where
  pub held : Holds256 inner (xor_all 0x36 (block_key key) ++ text)
  pub block : outer ≡ xor_all 0x5c (block_key key)
