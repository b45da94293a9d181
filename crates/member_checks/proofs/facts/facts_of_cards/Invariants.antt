use Rattle.std.proofs.Common.{◌≡◌, map, take}
use Rattle.member_checks.specs.Facts.{facts_of}
use Rattle.member_checks.proofs.facts.facts_of_cards.Given as goal

-- of the cards so far
abbrev pub invariant-loop-card : goal.invariant-loop-card
invariant-loop-card g l = l.facts.items ≡ map (facts_of g.K.Kem) (take l.card-index l.cards)
