use Rattle.std.proofs.Common.{◌∙◌, ap, sym, length}
use Rattle.std.specs.Prelude.{None}
use Rattle.wire_codec.specs.Packets.{addressed}
use Rattle.wire_codec.specs.Repeated.{items_in}
use Rattle.wire_codec.proofs.ListReads.{count_is}
use Rattle.wire_codec.proofs.parts.PartsView.count.Goals as goal

pub returns : goal.returns
returns c =
    let inside = c.self.inside in
    let item = addressed inside.set None in
    sym (ap length (sym c.self.view_is) ∙ count_is item inside.count inside.bytes.now (items_in item inside.count inside.bytes.now) c.self.invariant)
