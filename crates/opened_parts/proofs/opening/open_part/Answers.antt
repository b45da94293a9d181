use Rattle.std.proofs.Common.{ap}
use Rattle.secret_book.specs.HeldBooks.{HeldBook}
use Rattle.opened_parts.proofs.OpenedParts.{opens_none, opens_some, same_places}
use Rattle.opened_parts.proofs.opening.open_part.Goals as goal

pub returns-in-None-clause-opened : goal.returns-in-None-clause-opened
returns-in-None-clause-opened g c = λ O ids state h within.
    rw c.in-None.is (opens_none g.K.Kem O ids c.args.place _ state h)

pub returns-in_ok-open_from-in-Some-clause-opened : goal.returns-in_ok-open_from-in-Some-clause-opened
returns-in_ok-open_from-in-Some-clause-opened g c = λ O ids state h within.
    rw c.in-Some.is (opens_some g.K.Kem O ids c.args.place _ state h c.in-Some.bytes.now _ _
    (c.calls_stand.ensures O ids c.args.place _ state h within) (rw c.in-Some.is at c.requires.other)
    c.in_ok-open_from-in-Some.ensures.payload c.in_ok-open_from-in-Some.ensures.opened)

pub returns-in_ok-open_from-in-Some-clause-places : goal.returns-in_ok-open_from-in-Some-clause-places
returns-in_ok-open_from-in-Some-clause-places g c =
    same_places _ _ (ap (λ (b : HeldBook). b.met) c.in_ok-open_from-in-Some.ensures.opened)
