use Rattle.met_members.proofs.More.{one-can}
use Rattle.met_members.proofs.tests.found.Goals as goal

pub meet_founders-requires-clause-can : goal.meet_founders-requires-clause-can
meet_founders-requires-clause-can c =
    one-can _ c.in_ok-cards.cards c.in_ok-card.card c.in_ok-cards.ensures.only c.in_ok-cards.ensures.spelled (c.has_key.ensures c.if-has_key.true)
