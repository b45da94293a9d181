use Rattle.causal_history.proofs.TableFacts.{none-is, some-is, with_card-new, with_card-known}
use Rattle.causal_history.proofs.ListMore.{get-in}
use Rattle.causal_history.proofs.table.enroll_one.Goals as goal

pub returns-then-is_none-clause-roster : goal.returns-then-is_none-clause-roster
returns-then-is_none-clause-roster c =
    with_card-new c.args.row c.args.at c.args.id.now c.args.named.now.keys c.put.new.index.keys c.args.cards.now.items c.append.new.list.items
    (none-is _ _ c.number_of.result c.if-is_none.ensures c.number_of.ensures) c.put.ensures.keys c.append.ensures.items

pub returns-else-is_none-clause-roster : goal.returns-else-is_none-clause-roster
returns-else-is_none-clause-roster c =
    let s = some-is _ _ c.number_of.result c.if-is_none.ensures c.number_of.ensures in
    with_card-known c.args.row c.args.at c.args.id.now c.args.named.now.keys c.args.cards.now.items (get-in _ s.0 c.args.id.now s.2)
