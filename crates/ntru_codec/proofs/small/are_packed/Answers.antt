use Rattle.std.proofs.Common.{◌≡◌, ◌+◌, ◌-◌, ◌<◌, length, get_or, true≢false, sym, ◌∙◌, arith}
use Rattle.std.proofs.lemmas.Bool.Decides.{nat_tests}
use Rattle.ntru_codec.proofs.Codes.{packed_at, last_below, packed_from}
use Rattle.ntru_codec.proofs.small.are_packed.Goals as goal

pub returns-then-not-is_packed : goal.returns-then-not-is_packed
returns-then-not-is_packed c = (
  λ h. absurd (true≢false (sym h)),
  λ h. sym c.if-not-is_packed.true ∙ c.is_packed.ensures.1 (packed_at c.args.bytes.now h c.loop-i.i (omega arith)),
)

pub returns : goal.returns
returns c =
    let bytes = c.args.bytes.now in
    let last : length bytes - 1 + 1 ≡ length bytes = omega (arith, c.requires) in (
      λ h. let small : get_or bytes (length bytes - 1) 0 < 3 = grind (arith, nat_tests) in
          packed_from bytes (length bytes - 1) last (λ j less. c.loop-i.invariant j (omega arith)) small,
      λ h. let small = last_below bytes (length bytes - 1) last h in
          grind (arith, nat_tests),
    )
