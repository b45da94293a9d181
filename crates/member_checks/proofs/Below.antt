-- Tests of numbers.
use Rattle.std.proofs.Common.{◌≡◌, ℕ, ◌<◌, false, true, arith}
use Rattle.std.specs.Prelude.{nat_lt}

lt-holds : (m n : ℕ) → nat_lt m n ≡ true → m < n
lt-holds m n t = grind arith

lt-fails : (m n : ℕ) → nat_lt m n ≡ false → m < n → ⊥
lt-fails m n f l = absurd (let t : nat_lt m n ≡ true = grind arith in cc)

pub below-is : (m n j k : ℕ) → m ≡ j → n ≡ k → nat_lt j k ≡ true → m < n
below-is m n j k e d t = let l = lt-holds j k t in omega arith

pub below-not : (m n j k : ℕ) → m ≡ j → n ≡ k → nat_lt j k ≡ false → m < n → ⊥
below-not m n j k e d f l = lt-fails j k f (omega arith)
