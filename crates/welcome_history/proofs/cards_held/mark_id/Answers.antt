use Rattle.std.proofs.Common.{map}
use Rattle.group_model.proofs.Places.{place-in}
use Rattle.causal_history.specs.Bits.{bit}
use Rattle.member_view.proofs.Crowds.{more-one}
use Rattle.welcome_history.proofs.CardsHeld.{member_id}
use Rattle.welcome_history.proofs.cards_held.mark_id.Goals as goal

pub returns-clause-there : goal.returns-clause-there
returns-clause-there c =
    place-in (map member_id c.args.ids.now) c.in_ok-index.index c.args.id.now.0.0 c.in_ok-index.ensures.index

pub returns-clause-marked : goal.returns-clause-marked
returns-clause-marked c =
    more-one (map member_id c.args.ids.now) c.requires.distinct (bit c.args.seen.0) (bit c.with.result.0)
    c.args.id.now.0.0 c.in_ok-index.index c.in_ok-index.ensures.index c.with.ensures.set c.with.ensures.others
