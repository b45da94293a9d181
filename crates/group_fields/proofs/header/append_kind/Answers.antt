use Rattle.group_fields.proofs.HeaderBytes.{kind_appended}
use Rattle.group_fields.proofs.header.append_kind.Goals as goal

pub returns : goal.returns
returns c =
    kind_appended c.number.result c.args.bytes.now.items c.append_u8.new.bytes.items c.append_u8.result c.append_u8.ensures.appends c.args.value c.number.ensures
