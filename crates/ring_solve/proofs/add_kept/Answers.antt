use Rattle.std.proofs.Common.{ℕ, ◌≤◌, List, slice_index, arith}
use Rattle.std.proofs.lemmas.Nat.{mul-le}
use Rattle.ring_solve.specs.Steps.{HasRoom}
use Rattle.ring_solve.proofs.add_kept.Goals as goal

pub add_small_multiple-requires-clause-narrow : goal.add_small_multiple-requires-clause-narrow
add_small_multiple-requires-clause-narrow c = λ k.
    let b = c.requires.below k in
    omega (arith, mul-le c.args.factor (slice_index c.args.basis.now k) 255 255 (omega arith) (omega arith))

-- zeros up to a column are zeros up to an earlier one
earlier : (factor from c : ℕ) (row basis : List ℕ) (at : ℕ) → HasRoom factor c row basis at → from ≤ c → HasRoom factor from row basis at
earlier factor from c row basis at h le = record { place = h.place; size = h.size; before = λ j lt. h.before j (omega arith); fits = h.fits }

pub add_small_multiple-requires-clause-room : goal.add_small_multiple-requires-clause-room
add_small_multiple-requires-clause-room c = earlier _ _ _ _ _ _ c.requires.room (omega arith)

pub add_multiple-requires : goal.add_multiple-requires
add_multiple-requires c = record { room = earlier _ _ _ _ _ _ c.requires.room (omega arith) }
