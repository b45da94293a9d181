use Rattle.std.proofs.Common.{arith}
use Rattle.causal_history.specs.Bits.{bit}
use Rattle.causal_history.specs.Rows.{history_of}
use Rattle.group_messages.specs.Messages.{ids_of}
use Rattle.member_view.specs.Crowds.{ids_with, last_of}
use Rattle.member_view.proofs.Crowds.{id-at, ids-length, more-first, more-step, more-end}
use Rattle.member_view.proofs.places.with_ids.Goals as goal

pub loop-index-init : goal.loop-index-init
loop-index-init c = more-first (ids_with (last_of c.args.last) (history_of c.args.history.now)) (ids_of c.args.ids.now) (bit c.args.crowd.0)

pub loop-index-preserved : goal.loop-index-preserved
loop-index-preserved c = more-step (ids_with (last_of c.args.last) (history_of c.args.history.now)) (ids_of c.args.ids.now) c.loop-index.index
    c.id.result.0 (id-at c.args.ids.now c.loop-index.index c.id.result c.id.ensures) (bit c.args.crowd.0) (bit c.loop-index.wider.0)
    (bit c.with_id-wider.result.0) c.loop-index.invariant c.with_id-wider.ensures

pub returns : goal.returns
returns c = more-end (ids_with (last_of c.args.last) (history_of c.args.history.now)) (ids_of c.args.ids.now) c.loop-index.index
    (bit c.args.crowd.0) (bit c.loop-index.wider.0)
    (let l = ids-length c.args.ids.now in omega arith) c.loop-index.invariant
