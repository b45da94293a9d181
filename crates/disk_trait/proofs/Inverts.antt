-- One more byte is inverted.
use Rattle.std.proofs.Common.{◌≡◌, ℕ, zero, suc, ◌+◌, ◌-◌, ◌<◌, List, [], ◌∷◌, ◌++◌, length, take, drop, get_or, refl, ap, arith, add-one}
use Rattle.std.proofs.Math.ListN.{set}
use Rattle.disk_trait.specs.Replay.{inverted}

step : (bytes : List ℕ) (i : ℕ) → i < length bytes
    → set (inverted (take i bytes) ++ drop i bytes) i (255 - get_or (inverted (take i bytes) ++ drop i bytes) i 0)
    ≡ inverted (take (suc i) bytes) ++ drop (suc i) bytes
step [] i within = absurd (omega arith)
step (b ∷ bytes) zero within = refl
step (b ∷ bytes) (suc i) within = ap (λ (l : List ℕ). (255 - b) ∷ l) (step bytes i (omega arith))

pub inverts_one : (bytes : List ℕ) (i : ℕ) → i < length bytes
    → set (inverted (take i bytes) ++ drop i bytes) i (255 - get_or (inverted (take i bytes) ++ drop i bytes) i 0)
    ≡ inverted (take (i + 1) bytes) ++ drop (i + 1) bytes
inverts_one bytes i within = rw add-one (step bytes i within)
