use Rattle.wire_codec.specs.Packets.{row}
use Rattle.welcome_history.proofs.HandedOn.{none_yet, rows_more}
use Rattle.welcome_history.proofs.writing.append_each_row.Goals as goal

pub loop-index-init : goal.loop-index-init
loop-index-init c = none_yet row c.args.into.now.items

pub loop-index-preserved : goal.loop-index-preserved
loop-index-preserved c =
    rows_more c.args.history.now c.loop-index.index c.row.result c.args.into.now.items c.loop-index.into.items c.append_row.new.into.items
    c.row.ensures.row c.loop-index.invariant c.in_ok-append_row.ensures
