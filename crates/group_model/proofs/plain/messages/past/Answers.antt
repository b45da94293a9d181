use Rattle.std.proofs.Common.{refl}
use Rattle.group_model.specs.Plain.{history_of}
use Rattle.group_model.proofs.Rows.{past-row_taken, past-row_left, past-row_end}
use Rattle.group_model.proofs.plain.messages.past.Goals as goal
use Rattle.group_model.proofs.plain.messages.past.Goals.{then-has+in_ok-found+in_ok-wanted-2, else-has}

pub loop-row-preserved : goal.loop-row-preserved
loop-row-preserved c = elim c.if-has.branch [
  | then-has+in_ok-found+in_ok-wanted-2 w ↦
      past-row_taken c.args.rows.now (history_of c.loop-row.found.items) (history_of c.if-has.found.items) c.loop-row.wanted.items
      c.if-has.wanted.items c.loop-row.row-index c.row-item.result _ c.loop-row-test.true c.row-item.is c.loop-row.invariant
      (rw c.as_slice.ensures.value at (c.has.ensures.0 w.if-has.true)) (rw w.found-is w.in_ok-found.ensures)
      (let a = w.as_slice-then-has.ensures.value in let b = w.as_slice-then-has-2.ensures.value in cc (w.in_ok-wanted-2.ensures))
  | else-has w ↦
      past-row_left c.args.rows.now (history_of c.loop-row.found.items) (history_of c.if-has.found.items) c.loop-row.wanted.items
      c.if-has.wanted.items c.loop-row.row-index c.row-item.result _ c.loop-row-test.true c.row-item.is c.loop-row.invariant
      (λ i. let t = c.has.ensures.1 (rw (← c.as_slice.ensures.value) at i) in let f = w.if-has.false in cc)
      (rw w.found-is refl) (rw w.wanted-is refl)
]

pub returns : goal.returns
returns c = past-row_end c.args.rows.now (history_of c.loop-row.found.items) c.loop-row.wanted.items c.loop-row.row-index _
    c.loop-row-test.false c.loop-row.invariant
