-- What contracts see of a pair.
use Rattle.std.specs.Prelude.{ℕ, List}
use Rattle.ntru_prime.specs.declared.pair.TestedPair.{TestedPair}

-- its secret key
abbrev pub secret_of : {P : ℕ} → TestedPair P → List ℕ
secret_of pair = pair.secret.items
