use Rattle.std.proofs.Common.{List, ℕ, subst, sym, arith}
use Rattle.group_fields.specs.CardViews.{card_of}
use Rattle.group_fields.specs.Cards.{Spells, card_of_sets}
use Rattle.group_fields.specs.LayoutReads.{left}
use Rattle.group_fields.proofs.CardBytes.{of_some_sets}
use Rattle.group_fields.proofs.ReadSteps.{never_back}
use Rattle.group_fields.proofs.WholeReads.{taken_spelled}
use Rattle.group_fields.proofs.card_view.take_card.Goals as goal

pub since-requires : goal.since-requires
since-requires c =
    let old = c.args.cursor.now in
    let new = c.take_parts.new.cursor in
    let forth = never_back (card_of_sets c.args.least c.args.greatest) old.place (left old) new.place (left new) (card_of c.in_ok-parts.parts)
    c.in_ok-parts.ensures.takes.gives in
    omega (arith, forth, c.place-from.ensures.place)

pub invariant_of-result : goal.invariant_of-result
invariant_of-result c =
    let value = card_of c.in_ok-parts.parts in
    let takes = c.in_ok-parts.ensures.takes in
    let bytes = taken_spelled (card_of_sets c.args.least c.args.greatest) c.place-from.result c.args.cursor.now c.take_parts.new.cursor value
    c.place-from.ensures.place takes.gives takes.same takes.within in
    subst (λ (b : List ℕ). Spells value b) (sym c.since.ensures)
    (of_some_sets c.args.least c.args.greatest _ value c.requires.least c.requires.greatest bytes)
