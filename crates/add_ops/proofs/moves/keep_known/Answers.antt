use Rattle.std.proofs.Common.{◌∷◌, [], Option, Some, ap, subst, sym}
use Rattle.group_model.specs.Sets.{Bytes}
use Rattle.member_book.specs.Books.{keep}
use Rattle.member_book.specs.Places.{id_at}
use Rattle.secret_book.specs.HeldBooks.{HeldBook, held}
use Rattle.secret_book.proofs.Outcomes.{ok-map}
use Rattle.book_standing.specs.Standing.{HeldStands}
use Rattle.add_ops.proofs.Forgotten.{same_places}
use Rattle.add_ops.proofs.moves.keep_known.Goals as goal

pub returns-in-Some-clause-stands : goal.returns-in-Some-clause-stands
returns-in-Some-clause-stands g c = ok-map c.keep.result (λ done e. λ O ids state h within.
    subst (λ (v : Option Bytes). HeldStands g.K.Kem O ids (held c.keep.new.self)
    (keep c.args.of.0.0 (id_at ids c.args.place ∷ []) (λ y. v) state)) (sym c.in-Some.is)
    (subst (λ (x : HeldBook). HeldStands g.K.Kem O ids x
    (keep c.args.of.0.0 (id_at ids c.args.place ∷ []) (λ y. Some c.in-Some.secret) state)) (sym e)
    ((c.calls_stand.ensures O ids c.args.place _ state h within).keeps c.args.of.0.0 c.in-Some.secret))) c.keep.ensures.kept

pub returns-in-Some-clause-places : goal.returns-in-Some-clause-places
returns-in-Some-clause-places g c =
    ok-map c.keep.result (λ done e. same_places _ _ (ap (λ (b : HeldBook). b.met) e)) c.keep.ensures.kept
