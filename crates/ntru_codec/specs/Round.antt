-- One round of the encoding: how long it is, and the moduli of the round after it.
use Rattle.std.specs.Prelude.{◌≡◌, ℕ, ◌+◌, ◌*◌, ◌/◌, ◌%◌, List}
use Rattle.ntru_codec.specs.declared.moduli.Moduli.{Moduli}
use Rattle.ntru_codec.specs.declared.moduli.Round.{Round}
use Rattle.ntru_codec.specs.Mixed.{Digit}
use Rattle.ntru_codec.specs.Rows.{Shrinks, row, IsBelow}

-- The round of digits with these moduli. The last digit stays where it has no neighbour.
pub record IsRound (m : Moduli) (r : Round) : Type 0 where
  pub pairs : r.pairs ≡ m.front / 2
  pub each : Shrinks 16384 (m.each * m.each) r.each.bytes r.each.modulus
  pub alone : m.front % 2 ≡ 0 → (r.last.bytes ≡ 0) × (r.last.modulus ≡ m.last)
  pub joined : m.front % 2 ≡ 1 → Shrinks 16384 (m.each * m.last) r.last.bytes r.last.modulus

-- how many bytes the round gives off
abbrev pub round_len : Round → ℕ
round_len r = r.each.bytes * r.pairs + r.last.bytes

-- the digits of the round, and those of the round after it
abbrev pub digits_of : Moduli → List ℕ → List Digit
digits_of m rs = row m.front m.each m.last rs

abbrev pub left_of : Round → List ℕ → List Digit
left_of r rs = row r.pairs r.each.modulus r.last.modulus rs

abbrev pub AreBelow : Moduli → List ℕ → Type 0
AreBelow m rs = IsBelow m.front m.each m.last rs

abbrev pub LeftBelow : Round → List ℕ → Type 0
LeftBelow r rs = IsBelow r.pairs r.each.modulus r.last.modulus rs
