use Rattle.std.proofs.Common.{[], get_or, sym, subst, arith}
use Rattle.std.proofs.lemmas.List.{take_all}
use Rattle.group_model.proofs.Numbers.{number-below}
use Rattle.causal_history.specs.Bits.{mark}
use Rattle.causal_history.specs.Numbered.{IsNumberOf, MarksMore}
use Rattle.causal_history.specs.Rows.{history_of}
use Rattle.causal_history.proofs.Numbers.{number-at, more-start, more-put}
use Rattle.causal_history.proofs.RowFacts.{history-length}
use Rattle.causal_history.proofs.history.History.mark_predecessors.Goals as goal

pub loop-number-init : goal.loop-number-init
loop-number-init c = λ m n. more-start (history_of c.args.self.now) (mark c.args.into.now)

pub put-requires : goal.put-requires
put-requires c =
    let r = number-at (history_of c.args.self.now) c.args.index (omega (arith, c.requires, history-length c.args.self.now)) in
    let k = c.predecessors_of-number-items.ensures.numbers r.0 r.1 in
    let i = k.each c.loop-number.number-index (omega (arith, k.size, c.loop-number-test.true)) in
    omega (
      arith,
      number-below (history_of c.args.self.now) _ i.by i.number,
      c.into.ensures,
      history-length c.args.self.now,
      c.predecessors_of-number-items.ensures.kept.few,
    )

pub loop-number-preserved : goal.loop-number-preserved
loop-number-preserved c = λ m n.
    let k = c.predecessors_of-number-items.ensures.numbers m n in
    more-put (history_of c.args.self.now) c.predecessors_of-number-items.ensures.kept.history m.predecessors c.loop-number.number-index []
    (omega (arith, k.size, c.loop-number-test.true)) (mark c.args.into.now) (mark c.loop-number.into) (mark c.put.new.self) c.into.result
    (subst (λ z. IsNumberOf (history_of c.args.self.now) (get_or m.predecessors c.loop-number.number-index []) z) (sym c.into.ensures)
    (k.each c.loop-number.number-index (omega (arith, k.size, c.loop-number-test.true))))
    (c.loop-number.invariant m n) c.put.ensures.set c.put.ensures.others

pub returns : goal.returns
returns c = λ m n.
    let k = c.predecessors_of-number-items.ensures.numbers m n in
    subst (λ z. MarksMore (history_of c.args.self.now) z (mark c.args.into.now) (mark c.loop-number.into))
    (take_all c.loop-number.number-index m.predecessors (omega (arith, k.size, c.loop-number-test.false)))
    (c.loop-number.invariant m n)
