use Rattle.std.proofs.Common.{◌+◌, ◌<◌, ◌≤◌, length, take, sym, subst, arith}
use Rattle.std.proofs.lemmas.List.{take_all}
use Rattle.system_calls.specs.Rows.{RowsSoFar}
use Rattle.system_calls.proofs.RowLemmas.{rows-none, rows-kept, rows-more, rows-all, filled_next, unfilled_next}
use Rattle.system_calls.proofs.listing.list_folder.Goals as goal
use Rattle.system_calls.proofs.listing.list_folder.Goals.{in-Some+in_ok-enter, in_default}

pub loop-change-init : goal.loop-change-init
loop-change-init c = rows-none c.args.changes.now c.args.folder.now c.new-rows.result c.new-rows.ensures.empty

pub loop-change-preserved : goal.loop-change-preserved
loop-change-preserved c =
    let changes = c.args.changes.now in
    let i = c.loop-change.change-index in
    let within : c.loop-change.change-index < length c.args.changes.now = omega arith in
    elim c.match-put_path.branch [
      | in-Some+in_ok-enter w ↦
          subst (λ rows. RowsSoFar c.args.changes.now (take (i + 1) c.args.changes.now) c.args.folder.now rows) (sym w.rows-is)
          (rows-more c.args.changes.now c.args.folder.now (take i c.args.changes.now) (take (i + 1) c.args.changes.now) w.in-Some.path.now c.loop-change.rows w.enter.new.rows
          c.loop-change.invariant w.in_ok-enter.ensures
          (filled_next c.args.changes.now i c.change-item.result w.in-Some.path.now within (sym c.change-item.is) (sym w.in-Some.ensures)))
      | in_default w ↦
          subst (λ rows. RowsSoFar c.args.changes.now (take (i + 1) c.args.changes.now) c.args.folder.now rows) (sym w.rows-is)
          (rows-kept c.args.changes.now c.args.folder.now (take i c.args.changes.now) (take (i + 1) c.args.changes.now) c.loop-change.rows c.loop-change.invariant
          (λ path. unfilled_next c.args.changes.now i c.change-item.result within (sym c.change-item.is) (sym w.in_default.ensures) path))
    ]

pub returns : goal.returns
returns c =
    let changes = c.args.changes.now in
    let whole : length c.args.changes.now ≤ c.loop-change.change-index = omega arith in
    rows-all changes c.args.folder.now c.loop-change.rows
    (subst (λ first. RowsSoFar changes first c.args.folder.now c.loop-change.rows) (take_all c.loop-change.change-index changes whole) c.loop-change.invariant)
