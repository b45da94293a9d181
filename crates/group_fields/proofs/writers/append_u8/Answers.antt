use Rattle.std.proofs.Common.{◌≡◌, ◌%◌, ◌∙◌, ℕ, [], ◌∷◌, ap, arith}
use Rattle.std.specs.Int.{w8}
use Rattle.group_fields.proofs.WriteSteps.{number_appended, u8_spelled}
use Rattle.group_fields.proofs.writers.append_u8.Goals as goal

pub returns-clause-appends : goal.returns-clause-appends
returns-clause-appends c =
    let n = c.args.value in
    let rest : n ≡ n % 256 = omega (arith, c.ranges.value.fits) in
    number_appended w8 n c.args.bytes.now.items c.extend_from_slice.new.self.items c.to_be_bytes.result c.extend_from_slice.result
    c.extend_from_slice.ensures.items (c.to_be_bytes.ensures ∙ ap (λ (b : ℕ). b ∷ []) rest)
    (λ least greatest between. u8_spelled least greatest n c.ranges.value.fits between)
