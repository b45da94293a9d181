use Rattle.std.proofs.Common.{◌≡◌, ◌-◌, length, take, drop}
use Rattle.lms_ots.specs.OneTime.{chain}
use Rattle.lms_ots.proofs.chains.chain.Given as goal

abbrev pub invariant-steps : goal.invariant-steps
invariant-steps l =
    (length l.input ≡ 55) × (take 22 l.input ≡ l.start) × (drop 23 l.input ≡ l.value) × (l.value ≡ chain l.start l.first (l.step - l.first) l.initial.value)
