-- When a device's count has risen.
use Rattle.std.specs.Prelude.{ℕ, ◌+◌, ◌≤◌, min}

-- the greatest value of a count, at which it stands still
abbrev pub greatest_count : ℕ
greatest_count = 0xffff_ffff_ffff_ffff

-- the count rose, or it stands at its greatest value; in either case it did not fall
pub record IsRaised (before now : ℕ) : Type 0 where
  pub no_lower : before ≤ now
  pub higher : min (before + 1) greatest_count ≤ now
