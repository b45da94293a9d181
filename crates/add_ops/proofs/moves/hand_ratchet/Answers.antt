use Rattle.std.proofs.Common.{Option, Some, ap, subst, sym}
use Rattle.group_model.specs.Sets.{Bytes}
use Rattle.member_book.specs.Books.{hand}
use Rattle.member_book.specs.Places.{id_at}
use Rattle.secret_book.specs.HeldBooks.{HeldBook, held}
use Rattle.book_standing.specs.Standing.{HeldStands}
use Rattle.add_ops.proofs.Forgotten.{same_places}
use Rattle.add_ops.proofs.moves.hand_ratchet.Goals as goal

pub returns-in-Some-clause-stands : goal.returns-in-Some-clause-stands
returns-in-Some-clause-stands g c = λ O ids state h within.
    subst (λ (v : Option Bytes). HeldStands g.K.Kem O ids (held c.hand.new.self) (hand (id_at ids c.args.place) v state)) (sym c.in-Some.is)
    (subst (λ (x : HeldBook). HeldStands g.K.Kem O ids x (hand (id_at ids c.args.place) (Some c.in-Some.ratchet) state)) (sym c.hand.ensures)
    ((c.calls_stand.ensures O ids c.args.place _ state h within).hands c.in-Some.ratchet))

pub returns-in-Some-clause-places : goal.returns-in-Some-clause-places
returns-in-Some-clause-places g c = same_places _ _ (ap (λ (b : HeldBook). b.met) c.hand.ensures)
