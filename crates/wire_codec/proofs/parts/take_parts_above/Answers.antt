use Rattle.std.proofs.Common.{arith}
use Rattle.std.specs.Prelude.{None}
use Rattle.group_fields.specs.LayoutReads.{left}
use Rattle.group_fields.proofs.ReadSteps.{never_back}
use Rattle.wire_codec.specs.Packets.{addressed, parts_above}
use Rattle.wire_codec.specs.Readings.{list_at}
use Rattle.wire_codec.specs.Repeated.{items_in}
use Rattle.wire_codec.proofs.ListReads.{AreTaken, are_taken, count_is}
use Rattle.wire_codec.proofs.PartBytes.{parts_plain}
use Rattle.wire_codec.proofs.parts.take_parts_above.Goals as goal

pub since-requires : goal.since-requires
since-requires c =
    let part = parts_above c.args.set c.args.count None in
    let old = c.args.cursor.now in
    let new = c.pass_parts.new.cursor in
    let forth = never_back part old.place (left old) new.place (left new) (list_at part old) c.in_ok-pass_parts.ensures.gives in
    omega (arith, forth, c.place-from.ensures.place)

taken : (c : goal.After-since) → AreTaken (parts_above c.args.set c.args.count None) (addressed c.args.set None) c.args.count c.since.result.now c.args.cursor.now c.pass_parts.new.cursor
taken c =
    are_taken (parts_above c.args.set c.args.count None) (addressed c.args.set None) c.args.count c.place-from.result c.args.cursor.now c.pass_parts.new.cursor
    c.since.result.now (parts_plain c.args.set c.args.count None) c.place-from.ensures.place c.in_ok-pass_parts.ensures c.since.ensures

pub invariant_of-result : goal.invariant_of-result
invariant_of-result c = (taken c).spelled

pub returns-clause-takes : goal.returns-clause-takes
returns-clause-takes c = record { gives = (taken c).gives; same = c.in_ok-pass_parts.ensures.same; within = c.in_ok-pass_parts.ensures.within }

pub returns-clause-count : goal.returns-clause-count
returns-clause-count c =
    let item = addressed c.args.set None in
    count_is item c.args.count c.since.result.now (items_in item c.args.count c.since.result.now) (taken c).spelled
