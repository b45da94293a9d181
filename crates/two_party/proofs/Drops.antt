-- Own keys that are dropped.
use Rattle.std.proofs.Common.{◌≡◌, ℕ, ◌+◌, ◌-◌, ◌≤◌, List, length, drop, Option, ◌∙◌, ap, ap₂, arith, length-drop}
use Rattle.group_model.specs.Sets.{Bytes}
use Rattle.group_model.specs.Pairing.{Target}
use Rattle.member_book.specs.PairStates.{Brought, PairState}

abbrev state_of : Target → Option Brought → ℕ → ℕ → List Bytes → PairState
state_of t last sends below own = record { target = t; below = below; own = own; last = last; sends = sends }

abbrev less : ℕ → PairState → PairState
less n k = record { target = k.target; below = k.below + n; own = drop n k.own; last = k.last; sends = k.sends }

pub dropped-is : (own left : List Bytes) (n sends : ℕ) (t : Target) (last : Option Brought) (k : PairState)
    → state_of t last sends (sends + 1 - length own) own ≡ k
    → left ≡ drop n own → n ≤ length k.own → length own ≤ sends + 1
    → state_of t last sends (sends + 1 - length left) left ≡ less n k
dropped-is own left n sends t last k ke e low bound =
    let long : length own ≡ length k.own = ap (λ (z : PairState). length z.own) ke in
    let fewer : length left ≡ length own - n = ap length e ∙ length-drop n own in
    let below : sends + 1 - length left ≡ sends + 1 - length own + n = omega arith in
    ap₂ (state_of t last sends) below e ∙ ap (less n) ke
