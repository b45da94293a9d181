use Rattle.std.proofs.Common.{◌≡◌, List, ℕ, ap, ◌-◌, ◌≤◌, length, take, drop, arith}
use Rattle.std.proofs.lemmas.List.{length-drop, length-take}
use Rattle.group_fields.specs.LayoutReads.{left}
use Rattle.group_fields.proofs.ReadSteps.{never_back}
use Rattle.wire_codec.specs.Packets.{greatest_size, row}
use Rattle.wire_codec.specs.Readings.{list_at}
use Rattle.wire_codec.specs.Repeated.{items_in, repeated}
use Rattle.wire_codec.proofs.ListReads.{AreTaken, are_taken, count_is}
use Rattle.wire_codec.proofs.rows.take_rows.Goals as goal

pub since-requires : goal.since-requires
since-requires c =
    let part = repeated c.args.count row in
    let old = c.args.cursor.now in
    let new = c.pass_rows.new.cursor in
    let forth = never_back part old.place (left old) new.place (left new) (list_at part old) c.in_ok-pass_rows.ensures.gives in
    omega (arith, forth, c.place-from.ensures.place)

taken : (c : goal.After-since) → AreTaken (repeated c.args.count row) row c.args.count c.since.result.now c.args.cursor.now c.pass_rows.new.cursor
taken c =
    are_taken (repeated c.args.count row) row c.args.count c.place-from.result c.args.cursor.now c.pass_rows.new.cursor
    c.since.result.now (λ b v s. s) c.place-from.ensures.place c.in_ok-pass_rows.ensures c.since.ensures

short : (n from greatest : ℕ) (whole part : List ℕ) → length whole ≤ greatest → part ≡ take n (drop from whole) → length part ≤ greatest
short n from greatest whole part le e = omega (arith, ap length e, length-take n (drop from whole), length-drop from whole, le)

pub invariant_of-result : goal.invariant_of-result
invariant_of-result c =
    record {
      spelled = (taken c).spelled;
      short = short (c.pass_rows.new.cursor.place - c.place-from.result) c.place-from.result greatest_size c.pass_rows.new.cursor.whole c.since.result.now
          (omega (arith, ap length c.in_ok-pass_rows.ensures.same, c.requires.short)) c.since.ensures;
    }

pub returns-clause-takes : goal.returns-clause-takes
returns-clause-takes c = record { gives = (taken c).gives; same = c.in_ok-pass_rows.ensures.same; within = c.in_ok-pass_rows.ensures.within }

pub returns-clause-count : goal.returns-clause-count
returns-clause-count c = count_is row c.args.count c.since.result.now (items_in row c.args.count c.since.result.now) (taken c).spelled
