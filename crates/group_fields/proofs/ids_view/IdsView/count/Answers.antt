use Rattle.std.proofs.Common.{◌∙◌, ap, sym, length}
use Rattle.group_fields.proofs.IdBytes.{ids_in-length}
use Rattle.group_fields.proofs.ids_view.IdsView.count.Goals as goal

pub returns : goal.returns
returns c = sym (ids_in-length c.self.inside.count c.self.inside.bytes.now) ∙ ap length c.self.view_is
