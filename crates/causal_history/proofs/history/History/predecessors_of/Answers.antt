use Rattle.std.proofs.Common.{List, arith, ap, length, subst, sym, take, drop, ◌∙◌}
use Rattle.group_model.specs.Marks.{HasNumber}
use Rattle.causal_history.specs.Numbered.{AreNumbersOf}
use Rattle.causal_history.specs.Rows.{Row, history_of}
use Rattle.causal_history.proofs.ListMore.{get-item, get-there}
use Rattle.causal_history.proofs.RowFacts.{predecessor-numbers}
use Rattle.causal_history.proofs.history.History.predecessors_of.Goals as goal

pub part-requires : goal.part-requires
part-requires c =
    let l = (get-item c.self.inside.table.links.items c.args.index c.index-link.result.now
    (omega (arith, c.requires, c.self.invariant.linked, ap length c.self.view_is)) c.index-link.ensures) in
    let r = get-there c.self.inside.table.rows.items c.args.index (omega (arith, c.requires, ap length c.self.view_is)) in
    let k = c.self.invariant.each c.args.index c.index-link.result.now r.0 l r.1 in
    omega (arith, k.within, ap length c.deref.ensures.value)

pub returns-clause-numbers : goal.returns-clause-numbers
returns-clause-numbers c = λ m n.
    let l = (get-item c.self.inside.table.links.items c.args.index c.index-link.result.now
    (omega (arith, c.requires, c.self.invariant.linked, ap length c.self.view_is)) c.index-link.ensures) in
    let k = predecessor-numbers c.self.inside.table.rows.items c.self.inside.table.links.items c.self.inside.table.numbers.items c.self.inside.table.ids.keys
    c.self.inside.table.senders.keys c.self.inside.table.named.keys c.self.inside.table.cards.items c.self.invariant
    c.args.index c.index-link.result.now m l (subst (λ (z : List Row). HasNumber (history_of z) c.args.index m) (sym c.self.view_is) n) in
    subst (λ z. AreNumbersOf (history_of c.args.self.now) m.predecessors z)
    (sym (c.part.ensures ∙ ap (λ z. take c.index-link.result.now.count (drop c.index-link.result.now.first z)) c.deref.ensures.value))
    (subst (λ (z : List Row). AreNumbersOf (history_of z) m.predecessors
    (take c.index-link.result.now.count (drop c.index-link.result.now.first c.self.inside.table.numbers.items))) c.self.view_is k)
