use Rattle.std.specs.Int.{w32}
use Rattle.group_fields.proofs.WriteSteps.{number_appended, u32_spelled}
use Rattle.group_fields.proofs.writers.append_u32.Goals as goal

pub returns-clause-appends : goal.returns-clause-appends
returns-clause-appends c =
    number_appended w32 c.args.value c.args.bytes.now.items c.extend_from_slice.new.self.items c.to_be_bytes.result c.extend_from_slice.result
    c.extend_from_slice.ensures.items c.to_be_bytes.ensures
    (λ least greatest between. u32_spelled least greatest c.args.value c.ranges.value.fits between)
