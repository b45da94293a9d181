use mir.Val.{bool_byte}
use Rattle.std.proofs.Common.{◌≡◌, ◌∙◌, Bool, true, false, refl}
use Rattle.group_fields.specs.Headers.{flag_number}
use Rattle.group_fields.proofs.HeaderBytes.{flag_appended}
use Rattle.group_fields.proofs.header.append_flag.Goals as goal

as_number : (took : Bool) → bool_byte took ≡ flag_number took
as_number true = refl
as_number false = refl

pub returns : goal.returns
returns c =
    flag_appended c.from.result c.args.bytes.now.items c.append_u8.new.bytes.items c.append_u8.result c.append_u8.ensures.appends c.args.took
    (c.from.ensures ∙ as_number c.args.took)
