use Rattle.std.proofs.Common.{sym}
use Rattle.welcome_history.proofs.CardsHeld.{place-here, none-yet}
use Rattle.welcome_history.proofs.cards_held.index_of.Goals as goal

pub returns-then-eq-clause-index : goal.returns-then-eq-clause-index
returns-then-eq-clause-index c =
    place-here c.args.ids.now c.loop-index.index _ c.args.id.now.0.0 c.loop-index-test.true (sym c.if-eq.ensures)

pub loop-index-preserved : goal.loop-index-preserved
loop-index-preserved c =
    none-yet c.args.ids.now c.loop-index.index _ c.args.id.now.0.0 c.loop-index-test.true (sym c.if-eq.ensures)
    c.loop-index.invariant
