-- What a write that fails leaves.
use Rattle.std.specs.Prelude.{◌≡◌, ℕ, List, ◌++◌, take}

-- some of the bytes were appended, from the first one on, and maybe none or all
abbrev pub AppendsPrefix : List ℕ → List ℕ → List ℕ → Type 0
AppendsPrefix bytes old new = (n : ℕ) × (new ≡ old ++ take n bytes)
