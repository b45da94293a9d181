-- The disk model: what the calls of a disk do, and what a crash may do between two syncs.
use Rattle.std.specs.Prelude.{◌≡◌, ◌⊎◌, ℕ, ◌+◌, ◌≤◌, min, max, List, ◌++◌, length, take, drop}

-- A write of n bytes at a place that a crash cuts short: any bytes in that range and behind the old end, the same bytes
-- elsewhere, and a length from the old one up to the end of the range.
pub record Torn (at n : ℕ) (old new : List ℕ) : Type 0 where
  pub before : take (min at (length old)) new ≡ take at old
  pub behind : drop (at + n) new ≡ drop (at + n) old
  pub no_shorter : length old ≤ length new
  pub no_longer : length new ≤ max (length old) (at + n)

-- A write that is whole: these bytes stand at the place, and elsewhere it is as if torn.
pub record Wrote (at : ℕ) (bytes old new : List ℕ) : Type 0 where
  pub there : take (length bytes) (drop at new) ≡ bytes
  pub elsewhere : Torn at (length bytes) old new

-- A read of n bytes from a place on, into the front of a buffer: as many as the buffer takes and the content has.
pub record ReadsPart (content : List ℕ) (at n : ℕ) (old new : List ℕ) : Type 0 where
  pub count : n ≡ min (length old) (length (drop at content))
  pub bytes : new ≡ take n (drop at content) ++ drop n old

-- each image after the write is one from before it, torn
abbrev pub MayTear : ℕ → ℕ → (List ℕ → Type 0) → (List ℕ → Type 0) → Type 0
MayTear at n old new = (c : List ℕ) → new c → (d : List ℕ) × old d × Torn at n d c

-- no image is new
abbrev pub MayNot : (List ℕ → Type 0) → (List ℕ → Type 0) → Type 0
MayNot old new = (c : List ℕ) → new c → old c

-- a crash leaves this and nothing else
abbrev pub LeavesOnly : List ℕ → (List ℕ → Type 0) → Type 0
LeavesOnly content image = (c : List ℕ) → image c → c ≡ content

-- Time passes in a call: a crash since an earlier moment might have left what it might have left before the call, or what
-- it may leave now, and nothing of that is forgotten.
pub record Passes (before now : ℕ) (past since : ℕ → List ℕ → Type 0) (image : List ℕ → Type 0) : Type 0 where
  pub later : before ≤ now
  pub nothing_else : (from : ℕ) (c : List ℕ) → from ≤ before → since from c → past from c ⊎ image c
  pub keeps : (from : ℕ) (c : List ℕ) → from ≤ before → past from c → since from c
